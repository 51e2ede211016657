-- What is left to mark gives the same marks.
use Rattle.std.proofs.Common.{◌≡◌, drop}
use Rattle.sheets.specs.Marks.{worker_marks, all_mark}
use Rattle.cells.specs.Layout.{unpack}
use Rattle.lent_sheets.proofs.mark_workers.Given as goal

abbrev pub invariant-loop-j : goal.invariant-loop-j
invariant-loop-j l =
    all_mark worker_marks l.fn.marks (unpack l.fn.s).worker ≡ all_mark worker_marks l.m (drop l.j (unpack l.fn.s).worker)
