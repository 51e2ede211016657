use Rattle.std.proofs.Common.{◌≤◌, ◌<◌, rules, tests, arith}
use Rattle.std.proofs.lemmas.Iterator.{IsFirst-from_position, YieldsList-from_slice}
use Rattle.records.proofs.Laws.{guards_at, guards_all}
use Rattle.records.proofs.setup.guards_told.Goals as goal

pub returns-in-Some : goal.returns-in-Some
returns-in-Some c =
    let f = IsFirst-from_position _ _ _ (λ x. c.args.locks ≤ x) (λ x. x < c.args.locks) c.position.ensures.ran (YieldsList-from_slice c.args.guards.now cc) (λ x q k. search (rules, tests)) (λ x q k. search (rules, tests)) in
    let g = rw c.in-Some.is at f in
    guards_at _ _ 6 _ g.0 (g.1 0) (λ k q. g.2 k 0 (omega arith) q)

pub returns-in-None : goal.returns-in-None
returns-in-None c =
    let f = IsFirst-from_position _ _ _ (λ x. c.args.locks ≤ x) (λ x. x < c.args.locks) c.position.ensures.ran (YieldsList-from_slice c.args.guards.now cc) (λ x q k. search (rules, tests)) (λ x q k. search (rules, tests)) in
    let g = rw c.in-None.is at f in
    guards_all _ _ 6 (λ k q. g k 0 (omega arith) q)
