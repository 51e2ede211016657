-- So every call keeps it, and every history from the setup on.
use Prim.Native.Nat.{ℕ}
use mathlib.Core.List.{List}
use mathlib.Core.Path.{◌≡◌, sym, ap, ◌∙◌, subst}
use native.Mathlib.Omega.{arith}
use Rattle.parts.specs.Numbers.{instructions}
use Rattle.records.specs.Bytes.{AllBytes}
use Rattle.steps.specs.declared.Worker.{Worker}
use Rattle.engine.specs.Calls.{setup_of}
use Rattle.past.specs.Past.{Past}
use Rattle.helping.specs.Machine.{Rules}
use Rattle.helping.specs.Ok.{NotIdle}
use Rattle.histories.specs.History.{start, sofar}
use Rattle.histories.proofs.Rules.Rules.{fresh_is}
use Rattle.histories.proofs.Simulation.Follows.{KeptBy, past_keeps}
use Rattle.histories.proofs.Filled.Begun.{idled_keeps, begun_keeps}
use Rattle.histories.proofs.Filled.Entries.{marked, sum_same, sum_none, log_at}
use Rattle.histories.proofs.Filled.Goes.{not_free}
use Rattle.histories.proofs.Filled.Kept.{Kept}
use Rattle.histories.proofs.Filled.Moved.{moved_keeps}

pub keeps : (K : Rules) → KeptBy K Kept
keeps K =
    record {
      begun = λ x s o w l rec b. begun_keeps x s.good w l rec b o;
      moved = moved_keeps K;
      idled = λ x s o w h. idled_keeps x s.good w h o;
    }

kept_start : (rec : List ℕ) → AllBytes rec → Kept (start (setup_of rec).engine)
kept_start rec b =
    let fresh = fresh_is rec b in
    record {
      hands = λ w y. absurd (subst (λ (k : Worker). NotIdle k.state) (fresh.idle w) y);
      locks = λ l s h. absurd (not_free s (sym (fresh.free l).0 ∙ h));
      made = tt;
      born = λ n j h. let z : ◌≡◌ {A = ℕ} 0 1 = cc in absurd (omega arith);
      one = λ n i j h k. let z : ◌≡◌ {A = ℕ} 0 1 = cc in absurd (omega arith);
      owner = λ s h. absurd (omega arith);
      apart = λ s t h k e. absurd (omega arith);
      sheet = λ s h. absurd (omega arith);
      bare =
          λ s h.
          sum_same instructions (λ p. 0) _
          (λ p b. ap marked (sym (log_at (setup_of rec).engine.entry s p b) ∙ fresh.empty s p)) ∙
          sum_none instructions;
    }

pub kept_past : (p : Past) → Kept (sofar p)
kept_past p = past_keeps Kept p (keeps _) (kept_start p.setup p.setup_bytes)
