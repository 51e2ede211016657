-- What is told of a call, by what its order of refusals gives.
use Rattle.std.specs.Prelude.{Err, Ok}
use mathlib.Core.Path.{◌≡◌, refl, ◌∙◌, sym, ap}
use Prim.Native.Nat.{ℕ, zero, suc, ◌<◌}
use mathlib.Core.List.{List, [], ◌∷◌}
use lib.ListN.{take}
use borrow.Author.Tests.{lt-leb}
use Rattle.arrays.specs.Fresh.{guards_of}
use Rattle.parts.specs.Numbers.{workers}
use Rattle.parts.specs.Told.{on_told}
use Rattle.parts.specs.declared.Answer.{Answer}
use Rattle.parts.specs.declared.Word.{Word}
use Rattle.records.specs.Job.{job_told}
use Rattle.steps.specs.Worker.{step_by_state, collect_by_state, collected_of}
use Rattle.steps.specs.declared.Point.{Point}
use Rattle.steps.specs.declared.State.TheVariants.{UnderWay, Finished}
use Rattle.steps.specs.declared.Worker.{Worker}
use Rattle.engine.specs.Calls.{outcome_of, step_of, collect_of}
use Rattle.engine.specs.State.{worker_at, with_worker}
use Rattle.engine.specs.Step.{stepped_of}
use Rattle.engine.specs.declared.Engine.{Engine}
use Rattle.parts.specs.declared.Refusal.{Refusal}
use Rattle.parts.specs.Told.{Told}
use Rattle.engine.specs.Calls.{answered}

pub told_accepted : {A : Type 0} (t : Told) (x a : A) (f : Refusal → A) → Ok tt ≡ t → x ≡ a → x ≡ on_told t a f
told_accepted t x a f h e = simp (← h) e

-- `search (told_refused r)`, with the refusal that the return tells
pub told_refused : (r : Refusal) {A : Type 0} (t : Told) (x a : A) (f : Refusal → A) → Err r ≡ t → x ≡ f r → x ≡ on_told t a f
told_refused r t x a f h e = simp (← h) e

-- q is what a callee told, of which it ensures that it is t
pub told_pass : {A : Type 0} (q t : Told) (x a : A) (f : Refusal → A) → q ≡ t → q ≡ Ok tt → x ≡ a → x ≡ on_told t a f
told_pass q t x a f p k e = simp (sym p ∙ k) e

pub told_stop : {A : Type 0} (q t : Told) (r : Refusal) (x a : A) (f : Refusal → A) → q ≡ t → q ≡ Err r → x ≡ f r → x ≡ on_told t a f
told_stop q t r x a f p k e = simp (sym p ∙ k) e

-- the first guards are those of the first words
pub guards_first : (n : ℕ) (words : List Word) → take n (guards_of words) ≡ guards_of (take n words)
guards_first zero words = refl
guards_first (suc n) [] = refl
guards_first (suc n) (w ∷ words) = ap (λ (r : List ℕ). w.guard ∷ r) (guards_first n words)

-- a job is checked against the guards of the first W words
pub job_for :
    (r : Told) (rec guards : List ℕ) (lock n W : ℕ) (words : List Word) →
    r ≡ job_told rec lock (take n guards) →
    n ≡ W →
    guards ≡ guards_of words →
    r ≡ job_told rec lock (guards_of (take W words))
job_for r rec guards lock n W words h e g =
    h ∙ ap (λ (k : ℕ). job_told rec lock (take k guards)) e ∙
    ap (λ (l : List ℕ). job_told rec lock l) (ap (λ (l : List ℕ). take W l) g ∙ guards_first W words)

-- a refused call, by what a callee told
pub refused_by_lem : (e next : Engine) (q t : Told) (r : Refusal) → q ≡ t → q ≡ Err r → record { engine = e; told = q } ≡ outcome_of e t next
refused_by_lem e next q t r h k =
    ap (λ (u : Told). record { engine = e; told = u }) k ∙ told_refused r t _ _ _ (sym k ∙ h) refl

-- an accepted collect, from what is known of its worker
pub collected :
    (e next : Engine) (w : ℕ) (k : Worker) (x : Answer) →
    w < workers →
    (worker_at e w).state ≡ Finished x →
    k ≡ collected_of (worker_at e w) →
    next ≡ with_worker e w k →
    record { engine = next; told = Ok (answered x (worker_at e w).steps (worker_at e w).filled) } ≡ collect_of e w
unfolding collect_of collect_by_state
collected e next w k x h s q n = simp (lt-leb workers w h, s, n, q)

-- an accepted step, from what is known of its worker
pub stepped :
    (e next : Engine) (w : ℕ) (p : Point) →
    w < workers →
    (worker_at e w).state ≡ UnderWay p →
    next ≡ stepped_of e w p →
    record { engine = next; told = Ok tt } ≡ step_of e w
unfolding step_of step_by_state
stepped e next w p h s n = simp (lt-leb workers w h, s, n)

pub ruleset telling = (told_accepted, told_pass, told_stop)
