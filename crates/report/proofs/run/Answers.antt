-- The number that the call answers is the one that every call answers whose slices have enough elements.
use Rattle.std.proofs.Common.{◌≡◌, ℕ, ◌≤◌, true, List, length, get_or, ℤ, sym, ap, ◌∙◌, arith, le-leb}
use Rattle.demands.specs.Answers.{Told}
use Rattle.call_demands.specs.Calls.{RunCall, numbers_of, run_called, run_call}
use Rattle.demands.specs.Given.{Given}
use Rattle.demands.specs.Lent.{Lent, enough, lent}
use Rattle.call_demands.proofs.CallProof.{long-call}
use Rattle.demands.proofs.Texts.{answer-same}
use Rattle.report.specs.promises.Number.{CallNumber}
use Rattle.report.proofs.run.Goals as goal

same : (n : ℕ) → n ≤ n
same n = omega arith

-- the number does not hang on what the lent slices hold
number_same : (given : Given) (v : List ℤ) (l m : List ℕ) (o : List ℤ) (t x answer : List ℕ) {number : ℕ} {left : Lent} {told : List ℕ}
    → run_called number left told ≡ run_call given (lent v l m o t x) answer → 8192 ≤ length v → 8192 ≤ length l → 1024 ≤ length m → 2048 ≤ length o → 256 ≤ length t
    → 35097 ≤ length x → 4 ≤ length answer → CallNumber given number
number_same given v l m o t x answer e a b n c d f g other others h r k =
    let long : enough (lent v l m o t x) ≡ true = rw (le-leb 8192 (length v) a, le-leb 8192 (length l) b, le-leb 1024 (length m) n, le-leb 2048 (length o) c, le-leb 256 (length t) d) in
    ap (λ (r : RunCall). r.number) (e ∙ long-call given (lent v l m o t x) answer g)
    ∙ ap (λ (told : Told). get_or (numbers_of told) 0 0) (answer-same given (lent v l m o t x) other long h f r)
    ∙ sym (ap (λ (r : RunCall). r.number) (long-call given other others k))

pub returns : goal.returns
returns g c =
    number_same _ _ _ _ _ _ _ _ c.cilunovay_run-number.ensures
    (same 8192) (same 8192) (same 1024) (same 2048) (same 256) (same 35097) (same 4)
