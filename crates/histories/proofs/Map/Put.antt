-- The arrays after a store, as the theory's machine has them: `put` into what they held.
use Rattle.std.specs.Prelude.{None, Option}
use Prim.Native.Nat.{ℕ, ◌+◌, ◌≤◌, ◌<◌}
use native.Mathlib.Omega.{arith}
use mathlib.Core.Path.{◌≡◌, refl, ◌∙◌, sym, ap}
use mathlib.Core.Bool.{Bool, true, false}
use mathlib.Core.List.{List}
use lib.Dec.{eqb, ltb}
use lib.ListN.{length, get_or, set, take, drop, replicate, length-replicate, get_or-replicate}
use lib.Seq.{get_or-take, get_or-drop, get_or-set_same, get_or-set_other}
use borrow.Author.Tests.{eqb-true, eqb-false, ltb-true, ltb-false, le-ltb}
use Rattle.parts.specs.Lay.{lay}
use Rattle.parts.specs.Numbers.{sheets, instructions, entries}
use Rattle.parts.specs.Parts.{word0, lock0, entry0, reading_of}
use Rattle.parts.specs.Pick.{pick}
use Rattle.parts.specs.declared.Entry.{Entry}
use Rattle.parts.specs.declared.LockWord.{LockWord}
use Rattle.parts.specs.declared.Word.{Word}
use Rattle.steps.specs.Worker.{worker0}
use Rattle.steps.specs.declared.View.{View}
use Rattle.engine.specs.State.{sheet0, base_of}
use Rattle.engine.specs.Step.{put_at}
use Rattle.engine.specs.Inner.{Within}
use Rattle.engine.specs.declared.Engine.{Engine}
use Rattle.engine.specs.declared.Places.{Places}
use Rattle.engine.specs.declared.Sheet.{Sheet}
use Rattle.helping.specs.Machine.{Scene, put}
use Rattle.ranges.specs.Good.{Good}
use Rattle.ranges.proofs.Programs.{beside, put_program}
use Rattle.ranges.proofs.Laid.{lay_there, part_lay}
use Rattle.histories.proofs.Map.Map.{hand_of, scene_of}
use Rattle.parts.specs.declared.Reading.{Reading}

-- a function that is x at i, and elsewhere f
pub put_by :
    {A : Type 0} (f g : ℕ → A) (i : ℕ) (x : A) → g i ≡ x → ((k : ℕ) → (k ≡ i → ⊥) → g k ≡ f k) → g ≡ put f i x
put_by f g i x here other = λ j k. go k (eqb k i) refl j
  where
    go : (k : ℕ) (b : Bool) → eqb k i ≡ b → g k ≡ pick b x (f k)
    go k true e = ap g (eqb-true k i e) ∙ here
    go k false e = other k (eqb-false k i e)

-- what f reads of an array with x stored at i
pub set-put :
    {A B : Type 0} (f : A → B) (l : List A) (i : ℕ) (x d : A) → i < length l →
    (λ (k : ℕ). f (get_or (set l i x) k d)) ≡ put (λ k. f (get_or l k d)) i (f x)
set-put f l i x d h =
    put_by _ (λ k. f (get_or (set l i x) k d)) i (f x) (ap f (get_or-set_same l i x d h))
    (λ k n. ap f (get_or-set_other l i k x d n))

-- the logs that an array of entries holds
abbrev pub logs_of : List Entry → ℕ → ℕ → Option Reading
logs_of l s p = pick (ltb p instructions) (get_or l (base_of s + p) entry0).fill None

log_is :
    (l : List Entry) (s p : ℕ) (z : Option Reading) → (p < instructions → (get_or l (base_of s + p) entry0).fill ≡ z) →
    (instructions ≤ p → None ≡ z) → logs_of l s p ≡ z
log_is l s p z h k = go (ltb p instructions) refl
  where
    go : (b : Bool) → ltb p instructions ≡ b → pick b (get_or l (base_of s + p) entry0).fill None ≡ z
    go true e = h (ltb-true p instructions e)
    go false e = k (ltb-false p instructions e)

pub log_here : (l : List Entry) (s p : ℕ) → p < instructions → logs_of l s p ≡ (get_or l (base_of s + p) entry0).fill
log_here l s p h = log_is l s p _ (λ k. refl) (λ k. absurd (omega arith))

-- where two arrays have the same entry
log_same :
    (l m : List Entry) (s p : ℕ) → (p < instructions → get_or m (base_of s + p) entry0 ≡ get_or l (base_of s + p) entry0) →
    logs_of m s p ≡ logs_of l s p
log_same l m s p h =
    log_is m s p (logs_of l s p) (λ k. ap (λ (y : Entry). y.fill) (h k) ∙ sym (log_here l s p k))
    (λ k. simp (le-ltb p instructions k))

-- an entry stored at place p of sheet s
pub set_log :
    (l : List Entry) (s p : ℕ) (x : Entry) → length l ≡ entries → s < sheets → p < instructions →
    logs_of (set l (base_of s + p) x) ≡ put (logs_of l) s (put (logs_of l s) p x.fill)
set_log l s p x n h m =
    put_by (logs_of l) (logs_of now) s (put (logs_of l s) p x.fill)
    (put_by (logs_of l s) (logs_of now s) p x.fill
    (log_here now s p m ∙ ap (λ (y : Entry). y.fill) (get_or-set_same l (base_of s + p) x entry0 (omega arith)))
    (λ q d. log_same l now s q (λ k. get_or-set_other l (base_of s + p) (base_of s + q) x entry0 (λ z. d (omega arith)))))
    (λ t d j q. log_same l now t q (λ k. get_or-set_other l (base_of s + p) (base_of t + q) x entry0 (λ z. d (omega arith))) j)
  where
    now : List Entry
    now = set l (base_of s + p) x

-- the entries of sheet s, all empty from now
pub lay_log_lem :
    (l : List Entry) (s : ℕ) → length l ≡ entries → s < sheets →
    logs_of (lay (base_of s) (replicate instructions entry0) l) ≡ put (logs_of l) s (λ p. None)
lay_log_lem l s n h = put_by (logs_of l) (logs_of now) s (λ p. None) here other
  where
    blanks : List Entry
    blanks = replicate instructions entry0

    now : List Entry
    now = lay (base_of s) blanks l

    size : length blanks ≡ instructions
    size = length-replicate instructions entry0

    -- an entry of a sheet's part
    part : (m : List Entry) (t p : ℕ) → p < instructions →
        get_or (take instructions (drop (base_of t) m)) p entry0 ≡ get_or m (base_of t + p) entry0
    part m t p k = get_or-take instructions (drop (base_of t) m) p entry0 k ∙ get_or-drop (base_of t) m p entry0

    here : logs_of now s ≡ (λ p. None)
    here =
        λ j p.
        log_is now s p None
        (λ k.
        ap (λ (y : Entry). y.fill)
        (sym (part now s p k) ∙ ap (λ (m : List Entry). get_or m p entry0) (lay_there (base_of s) blanks l (omega arith)) ∙
        get_or-replicate instructions p entry0 entry0 k))
        (λ k. refl) j

    other : (t : ℕ) → (t ≡ s → ⊥) → logs_of now t ≡ logs_of l t
    other t d =
        λ j p.
        log_same l now t p
        (λ k.
        sym (part now t p k) ∙
        ap (λ (m : List Entry). get_or m p entry0)
        (part_lay (base_of t) instructions (base_of s) blanks l (beside t s (length blanks) instructions d (omega arith) (omega arith))) ∙
        part l t p k)
        j

-- The scene with the pieces of a view at their places, of which the entry's is place p of the sheet, is this scene where each of
-- its parts is that of e with the piece put there.
module _ (e : Engine) (g : Good e) (at : Places) (p : ℕ) (z : Within at) (h : p < instructions) (q : at.entry ≡ base_of at.sheet + p) where
  pub put_scene :
      (v : View) (F : Scene) →
      put (scene_of e).word at.word (reading_of v.word) ≡ F.word →
      put (scene_of e).lock at.lock v.lock ≡ F.lock →
      (scene_of e).program ≡ F.program →
      put (scene_of e).done at.sheet v.done ≡ F.done →
      put (scene_of e).log at.sheet (put ((scene_of e).log at.sheet) p v.entry.fill) ≡ F.log →
      put (scene_of e).worker at.worker (hand_of v.worker) ≡ F.worker →
      scene_of (put_at e at v) ≡ F
  unfolding put_at
  put_scene v F a b c d f k =
      let n = g.lengths in
      let word = set-put (λ (x : Word). reading_of x) e.word at.word v.word word0 (omega (arith, z.word, n.word)) in
      let lock = set-put (λ (x : LockWord). x) e.lock at.lock v.lock lock0 (omega (arith, z.lock, n.lock)) in
      let sheet : Sheet = record { length = (get_or e.sheet at.sheet sheet0).length; done = v.done } in
      let done = set-put (λ (x : Sheet). x.done) e.sheet at.sheet sheet sheet0 (omega (arith, z.sheet, n.sheet)) in
      let log : (scene_of (put_at e at v)).log ≡ _ =
      ap (λ (k : ℕ). logs_of (set e.entry k v.entry)) q ∙ set_log e.entry at.sheet p v.entry n.entry z.sheet h in
      let worker = set-put hand_of e.worker at.worker v.worker worker0 (omega (arith, z.worker, n.worker)) in
      λ i.
      record {
        word = (word ∙ a) i;
        lock = (lock ∙ b) i;
        program = ((λ j s. put_program e at v s j) ∙ c) i;
        done = (done ∙ d) i;
        log = (log ∙ f) i;
        worker = (worker ∙ k) i;
      }
