-- What `all` tells of the bytes is what the definition asks of them in turn.
use Rattle.std.proofs.Common.{◌≡◌, true, false, is_some, rules, tests}
use Rattle.std.proofs.lemmas.Iterator.{cases_from_all, YieldsList-from_slice}
use Rattle.script.specs.Line.{hex_digit}
use Rattle.script.proofs.Laws.{hex_all}
use Rattle.script.proofs.all_hex.Goals as goal

pub returns : goal.returns
returns c =
    hex_all c.all.result c.args.word.now
    (cases_from_all _ _ _ (λ b. is_some (hex_digit b) ≡ true) (λ b. is_some (hex_digit b) ≡ false) c.all.ensures.ran
    (YieldsList-from_slice c.args.word.now cc) (λ x q k. search (rules, tests)) (λ x q k. search (rules, tests)))
