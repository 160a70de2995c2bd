-- `step::taking::take_step` meets its contract. Assumes nothing.
use Rattle.memory.proofs.Finish.{unfit-done}
use Rattle.step.proofs.Short.{short-marks}
use Rattle.step.proofs.taking.take_step.Goals as goal

pub returns-then-marks-lt-MARK_ROOM-clause-done : goal.returns-then-marks-lt-MARK_ROOM-clause-done
returns-then-marks-lt-MARK_ROOM-clause-done c = let a = c.args in unfit-done a.step _ _ _ (short-marks a.container.now a.draws.now a.step _ _ c.if-marks-lt-MARK_ROOM.true)

pub returns-in-Scan-clause-done : goal.returns-in-Scan-clause-done
returns-in-Scan-clause-done c = rw c.in-Scan.is (c.scan.ensures.done _)

pub returns-in-Union-clause-done : goal.returns-in-Union-clause-done
returns-in-Union-clause-done c = rw c.in-Union.is (c.union.ensures.done _)

pub returns-in-Join-clause-done : goal.returns-in-Join-clause-done
returns-in-Join-clause-done c = rw c.in-Join.is (c.join.ensures.done _)

pub returns-in-Filter-clause-done : goal.returns-in-Filter-clause-done
returns-in-Filter-clause-done c = rw c.in-Filter.is (c.filter.ensures.done _)

pub returns-in-Keep-clause-done : goal.returns-in-Keep-clause-done
returns-in-Keep-clause-done c = rw c.in-Keep.is (c.keep.ensures.done _ _ c.if-marks-lt-MARK_ROOM.false)

pub returns-in-Apply-clause-done : goal.returns-in-Apply-clause-done
returns-in-Apply-clause-done c = rw c.in-Apply.is (c.apply.ensures.done _ _ c.if-marks-lt-MARK_ROOM.false)

pub returns-in-Group-clause-done : goal.returns-in-Group-clause-done
returns-in-Group-clause-done c = rw c.in-Group.is (c.group.ensures.done _)

pub returns-in-Noise-clause-done : goal.returns-in-Noise-clause-done
returns-in-Noise-clause-done c = rw c.in-Noise.is (c.noise.ensures.done _ _ c.if-marks-lt-MARK_ROOM.false)
