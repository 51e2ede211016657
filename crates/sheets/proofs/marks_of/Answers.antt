use Rattle.std.proofs.Common.{◌∙◌, rules}
use Rattle.std.proofs.lemmas.Iterator.{YieldsList-from_slice}
use Rattle.std.proofs.lemmas.Iterator.Consumers.{fold_from_yields_List}
use Rattle.sheets.specs.Marks.{marks_of, lock_marks, worker_marks}
use Rattle.sheets.proofs.Laws.{all_folds}
use Rattle.sheets.proofs.marks_of.Goals as goal

pub returns : goal.returns
unfolding marks_of lock_marks
returns c =
    let named = fold_from_yields_List _ lock_marks _ _ c.fold-named.ensures.ran (YieldsList-from_slice c.args.locks.now cc) (λ a x b q k. search rules) in
    let all = fold_from_yields_List _ worker_marks _ _ c.fold.ensures.ran (YieldsList-from_slice c.args.workers.now cc) (λ a x b q k. search rules) in
    all ∙ simp (named, all_folds)
