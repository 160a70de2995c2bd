-- The number and the place of each refusal, and the rows and columns of a release and the bytes of its text.
use Rattle.std.specs.Prelude.{Result, Ok, Err}
use Rattle.input.specs.Answers.{input_tells}
use Rattle.demands.specs.Answers.{Told, released, refused_input, refused_state}
use Rattle.run_answers.specs.declared.Released.{Released}
use Rattle.run_answers.specs.declared.RunRefusal.{RunRefusal}
use Rattle.run_answers.specs.declared.RunRefusal.TheVariants as run
use Rattle.memory.specs.Refusals.{refusal_tells}

-- what each refusal of a run says
abbrev pub run_refusal_says : RunRefusal → Told
run_refusal_says run.TooShort = refused_state 1 0 0 0
run_refusal_says (run.Input refusal) = input_tells refused_input refusal
run_refusal_says (run.Step step refusal) = refusal_tells (λ number row column. refused_state number step row column) refusal
run_refusal_says (run.StageLeft step at) = refused_state 35 step at.row at.column
run_refusal_says (run.Over step at) = refused_state 36 step at.row at.column
run_refusal_says (run.NoRoom steps) = refused_state 51 steps 0 0

-- and what each answer says
abbrev pub run_says : Result Released RunRefusal → Told
run_says (Ok made) = released made.rows made.columns made.bytes
run_says (Err refusal) = run_refusal_says refusal
