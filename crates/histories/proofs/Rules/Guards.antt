-- No call changes a word's guard, or the number of words: of a word a step changes the value and the count only, and no other
-- call changes a word at all.
use Rattle.std.specs.Prelude.{Err, None, Option, Some}
use Prim.Native.Nat.{ℕ}
use mathlib.Core.Path.{◌≡◌, refl}
use lib.Dec.{eqb}
use Rattle.parts.specs.Instr.{asks_of, follows_of}
use Rattle.parts.specs.Numbers.{last_turn}
use Rattle.parts.specs.Parts as parts
use Rattle.parts.specs.Parts.{word0, holds_of}
use Rattle.parts.specs.Pick.{on_option}
use Rattle.parts.specs.Told.{Told}
use Rattle.parts.specs.declared.Word.{Word}
use Rattle.alone.proofs.Bounds.{asks_all, follows_all}
use Rattle.steps.specs.Try.{look_step, grab_step, look_again_step, read_mark_step, read_step, follow_step, commit_step, swap_step, mark_step, release_step, effect_of}
use Rattle.steps.specs.declared.Point.{Point}
use Rattle.steps.specs.declared.Point.TheVariants.{Look, Grab, LookAgain, ReadMark}
use Rattle.steps.specs.declared.Stage.TheVariants.{Read, Commit, Swap, Mark, Release}
use Rattle.steps.specs.declared.View.{View}
use Rattle.engine.specs.State.{worker_at, word_at}
use Rattle.engine.specs.Step.{places_of, view_at, put_at, stepped_of}
use Rattle.engine.specs.Calls.{outcome_of, begun_of, begin_told, begin_of, step_told, onward_of, step_of, collect_told, collect_of, drop_told, drop_of}
use Rattle.engine.specs.Calls.{Collected}
use Rattle.engine.specs.declared.Engine.{Engine}
use Rattle.engine.specs.declared.Outcome.{Outcome}
use Rattle.past.specs.Past.{Call, Begin, Step, Collect, Drop, ReadWord, ReadLock, Show, Park, after}
use Rattle.ranges.proofs.Frame.{pick_all, state_all, told_all}
use Rattle.ranges.proofs.Laid.{set_same}

-- by the case of a holder: where each way has it
pub holder_each :
    {A : Type 0} (P : A → Type 0) (h : Option ℕ) (a : A) (f : ℕ → A) → P a → ((s : ℕ) → P (f s)) → P (on_option h a f)
holder_each P None a f p q = p
holder_each P (Some s) a f p q = q s

module _ (v : View) where
  abbrev Same : View → Type 0
  Same u = u.word.guard ≡ v.word.guard

  effect_guard : (p : Point) → Same (effect_of p v)
  unfolding effect_of look_step grab_step look_again_step read_mark_step read_step commit_step follow_step swap_step mark_step release_step parts.swap_of
  effect_guard Look = holder_each Same v.lock.holder _ _ (pick_all Same (eqb v.lock.turn last_turn) _ _ refl refl) (λ s. refl)
  effect_guard (Grab seen) = refl
  effect_guard (LookAgain won) = refl
  effect_guard (ReadMark seen won) =
      pick_all Same v.done _ _ refl
      (holder_each Same seen.holder _ _ refl (λ s. pick_all Same (eqb s v.worker.own) _ _ refl refl))
  effect_guard (Point.Run r Read) = asks_all Same (asks_of v.instr r.registers) (λ said. refl) (λ rs n. refl) (λ w. refl)
  effect_guard (Point.Run r (Commit read)) =
      follows_all Same (follows_of v.instr r.registers (holds_of v.entry read).value) (λ rs. refl) (λ new. refl)
  effect_guard (Point.Run r (Swap entry new)) =
      pick_all (λ (w : Word). w.guard ≡ v.word.guard) (eqb v.word.value entry.value) _ _
      (pick_all (λ (w : Word). w.guard ≡ v.word.guard) (eqb v.word.count entry.count) _ _ refl refl) refl
  effect_guard (Point.Run r (Mark said)) = refl
  effect_guard (Point.Run r (Release said)) = refl

-- e' has the words of e, and their guards
pub record Guarding (e e' : Engine) : Type 0 where
  pub words : e'.words ≡ e.words
  pub guard : (q : ℕ) → (word_at e' q).guard ≡ (word_at e q).guard

itself : (e : Engine) → Guarding e e
itself e = record { words = refl; guard = λ q. refl }

stepped_guards : (e : Engine) (w : ℕ) (p : Point) → Guarding e (stepped_of e w p)
unfolding put_at view_at
stepped_guards e w p =
    record {
      words = refl;
      guard =
          set_same (λ (x : Word). x.guard) e.word (places_of e w p).word _ word0
          (effect_guard (view_at e (places_of e w p)) p);
    }

outcome_guards :
    (e : Engine) (told : Told) (next : Engine) → Guarding e next → Guarding e (outcome_of e told next).engine
outcome_guards e told next h =
    told_all (λ (o : Outcome). Guarding e o.engine) told _ (λ r. record { engine = e; told = Err r }) (λ t. h)
    (λ r q. itself e)

pub guards_after : (e : Engine) (c : Call) → Guarding e (after e c)
unfolding after begin_of begun_of step_of collect_of drop_of
guards_after e (Begin w l rec) = outcome_guards e (begin_told e w l rec) _ (record { words = refl; guard = λ q. refl })
guards_after e (Step w) =
    outcome_guards e (step_told e w) (onward_of e w)
    (state_all (Guarding e) (worker_at e w).state e (λ p. stepped_of e w p) (λ x. e) (λ q. itself e)
    (λ p q. stepped_guards e w p) (λ x q. itself e))
guards_after e (Collect w) =
    told_all (λ (o : Collected). Guarding e o.engine) (collect_told e w) _ _
    (λ t. record { words = refl; guard = λ q. refl }) (λ r q. itself e)
guards_after e (Drop w) = outcome_guards e (drop_told e w) _ (record { words = refl; guard = λ q. refl })
guards_after e (ReadWord i) = itself e
guards_after e (ReadLock l) = itself e
guards_after e (Show s n) = itself e
guards_after e (Park n) = itself e
