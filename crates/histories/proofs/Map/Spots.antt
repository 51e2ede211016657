-- The places of a step, and the pieces there: in a state in its ranges no remainder changes one, and the word is the one that the instruction names.
use Rattle.std.specs.Prelude.{Option}
use Prim.Native.Nat.{ℕ, ◌+◌, ◌%◌, ◌<◌}
use native.Mathlib.Omega.{arith}
use mathlib.Core.Path.{◌≡◌, refl, ◌∙◌, sym, ap, subst}
use lib.ListN.{length, get_or, drop}
use lib.Seq.{get_or-take, get_or-drop}
use Rattle.parts.specs.Instr.{word_of}
use Rattle.parts.specs.Numbers.{workers, most_words, sheets, instructions}
use Rattle.parts.specs.Parts.{instr0, reading_of}
use Rattle.parts.specs.declared.Instr.{Instr}
use Rattle.steps.specs.Places.{run_spot, spot_of}
use Rattle.steps.specs.declared.Point.{Point}
use Rattle.steps.specs.declared.Point.TheVariants.{Look, Grab, LookAgain, ReadMark}
use Rattle.steps.specs.declared.Run.{Run}
use Rattle.steps.specs.declared.Spot.{Spot}
use Rattle.steps.specs.declared.State.TheVariants.{UnderWay}
use Rattle.steps.specs.declared.View.{View}
use Rattle.engine.specs.State.{base_of, worker_at, program_length, program_of}
use Rattle.engine.specs.Step.{spot_at, places_of, view_at}
use Rattle.engine.specs.Inner.{Within}
use Rattle.engine.specs.declared.Engine.{Engine}
use Rattle.engine.specs.declared.Places.{Places}
use Rattle.helping.specs.Ideal.{Touches, far_of}
use Rattle.helping.specs.Machine.{Rules, Scene, put, Act, act_of, target}
use Rattle.helping.specs.Ok.{RunIn, PointIn}
use Rattle.helping.proofs.Put.{put_idle_lem}
use Rattle.ranges.specs.Good.{Good}
use Rattle.ranges.proofs.Bites.{bites_not}
use Rattle.histories.proofs.Map.Map.{scene_of, Under}
use Rattle.histories.proofs.Map.Moves.{target_is}
use Rattle.histories.proofs.Map.Put.{log_here}
use Rattle.ranges.proofs.Programs.{program_length_lem}
use Rattle.parts.specs.declared.Reading.{Reading}

run_in :
    (K : Rules) (E : Scene) → K.most ≡ instructions → (r : Run) → RunIn K E r →
    (r.next < instructions) × (r.place < instructions)
run_in K E m r h = (omega (arith, h.next, h.short), omega (arith, h.place))

-- the instruction and the log entry of a point's spot are among those of a sheet
spot_in :
    (K : Rules) (E : Scene) → K.most ≡ instructions → (p : Point) (own : ℕ) → PointIn K E p →
    ((spot_of p own).next < instructions) × ((spot_of p own).place < instructions)
unfolding spot_of
spot_in K E m Look own h = (omega arith, omega arith)
spot_in K E m (Grab seen) own h = (omega arith, omega arith)
spot_in K E m (LookAgain won) own h = (omega arith, omega arith)
spot_in K E m (ReadMark seen won) own h = (omega arith, omega arith)
spot_in K E m (Point.Run r at) own h = run_in K E m r h.0

-- the instruction at a place of a sheet's program
pub instr_is :
    (e : Engine) → Good e → (s n : ℕ) → s < sheets → n < length (program_of e s) →
    get_or (program_of e s) n instr0 ≡ get_or e.program (base_of s + n) instr0
instr_is e g s n h m =
    get_or-take (program_length e s) (drop (base_of s) e.program) n instr0 (omega (arith, program_length_lem e s g h)) ∙
    get_or-drop (base_of s) e.program n instr0

-- where the pieces of a step stand, with nothing cut but the word's place
abbrev pub exact_of : Engine → ℕ → Point → Places
exact_of e w p =
    record {
      worker = w;
      lock = (worker_at e w).lock;
      word = (places_of e w p).word;
      entry = base_of (spot_at e w p).sheet + (spot_at e w p).place;
      instr = base_of (spot_at e w p).sheet + (spot_at e w p).next;
      sheet = (spot_at e w p).sheet;
    }

-- the pieces there
abbrev pub view_of : Engine → ℕ → Point → View
view_of e w p = view_at e (exact_of e w p)

-- a piece that a step leaves is put back
module _ (e : Engine) (w : ℕ) (p : Point) where
  pub word_back : put (scene_of e).word (places_of e w p).word (reading_of (view_of e w p).word) ≡ (scene_of e).word
  unfolding view_at
  word_back = put_idle_lem (scene_of e).word (places_of e w p).word _ refl

  pub lock_back : put (scene_of e).lock (worker_at e w).lock (view_of e w p).lock ≡ (scene_of e).lock
  unfolding view_at
  lock_back = put_idle_lem (scene_of e).lock (worker_at e w).lock _ refl

  pub done_back : put (scene_of e).done (spot_at e w p).sheet (view_of e w p).done ≡ (scene_of e).done
  unfolding view_at
  done_back = put_idle_lem (scene_of e).done (spot_at e w p).sheet _ refl

  -- an entry into its sheet's log, and this log into the logs
  module _ (h : (spot_at e w p).place < instructions) where
    pub entry_is : (scene_of e).log (spot_at e w p).sheet (spot_at e w p).place ≡ (view_of e w p).entry.fill
    unfolding view_at
    entry_is = log_here e.entry (spot_at e w p).sheet (spot_at e w p).place h

    pub entry_back :
        put (scene_of e).log (spot_at e w p).sheet
        (put ((scene_of e).log (spot_at e w p).sheet) (spot_at e w p).place (view_of e w p).entry.fill) ≡
        put (scene_of e).log (spot_at e w p).sheet ((scene_of e).log (spot_at e w p).sheet)
    entry_back =
        let s = (spot_at e w p).sheet in
        let n = (spot_at e w p).place in
        ap (λ (z : Option Reading). put (scene_of e).log s (put ((scene_of e).log s) n z)) (sym entry_is) ∙
        ap (λ (x : ℕ → Option Reading). put (scene_of e).log s x) (put_idle_lem ((scene_of e).log s) n _ refl)

    pub log_back :
        put (scene_of e).log (spot_at e w p).sheet
        (put ((scene_of e).log (spot_at e w p).sheet) (spot_at e w p).place (view_of e w p).entry.fill) ≡
        (scene_of e).log
    log_back = entry_back ∙ put_idle_lem (scene_of e).log (spot_at e w p).sheet _ refl

-- the instruction there, and what it asks a run for
abbrev pub instr_at : Engine → ℕ → Point → Instr
instr_at e w p = get_or e.program (exact_of e w p).instr instr0

abbrev pub act_in : Engine → ℕ → Point → Run → Act
act_in e w p r = act_of (instr_at e w p) r.registers

-- of a run at a point: the instruction is its program's next, and goes on inside it; the word's place is the word that it names
pub record RunAt (K : Rules) (e : Engine) (w : ℕ) (p : Point) (r : Run) : Type 0 where
  pub instr : get_or (program_of e r.sheet) r.next instr0 ≡ instr_at e w p
  pub far : r.next + far_of (act_in e w p r) < instructions
  pub place : r.place < instructions
  pub word : Touches (act_in e w p r) → (places_of e w p).word ≡ target (act_in e w p r)
  pub below : Touches (act_in e w p r) → target (act_in e w p r) < length K.values

module _
    (K : Rules)
    (e : Engine)
    (g : Good e)
    (u : Under K e)
    (w : ℕ)
    (h : w < workers)
    (p : Point)
    (q : (worker_at e w).state ≡ UnderWay p)
    (i : PointIn K (scene_of e) p)
  where
    pub places_are : places_of e w p ≡ exact_of e w p
    unfolding places_of
    places_are =
        let b = (bites_not e g).point w p q in
        let s = spot_in K (scene_of e) u.most p (worker_at e w).own i in
        let next : (spot_at e w p).next % instructions ≡ (spot_at e w p).next = omega (arith, s.0) in
        let place : (spot_at e w p).place % instructions ≡ (spot_at e w p).place = omega (arith, s.1) in
        λ j.
        record {
          worker = w;
          lock = b.lock j;
          word = (places_of e w p).word;
          entry = base_of (b.sheet j) + place j;
          instr = base_of (b.sheet j) + next j;
          sheet = b.sheet j;
        }

    pub place_in : (spot_at e w p).place < instructions
    place_in = (spot_in K (scene_of e) u.most p (worker_at e w).own i).1

    pub exact_in : Within (exact_of e w p)
    unfolding places_of
    exact_in =
        let b = (bites_not e g).point w p q in
        let s = spot_in K (scene_of e) u.most p (worker_at e w).own i in
        let sheet : (spot_at e w p).sheet < sheets = omega (arith, b.sheet) in
        record {
          worker = h;
          lock = omega (arith, b.below, g.numbers.locks);
          word = omega arith;
          entry = omega (arith, sheet, s.1);
          instr = omega (arith, sheet, s.0);
          sheet = sheet;
        }

    -- a run at this spot
    module _ (r : Run) (at : spot_at e w p ≡ run_spot r) (k : RunIn K (scene_of e) r) where
      instr_at_lem : get_or (program_of e r.sheet) r.next instr0 ≡ instr_at e w p
      instr_at_lem =
          let z = exact_in.sheet in
          let s : (spot_at e w p).sheet ≡ r.sheet = ap (λ (x : Spot). x.sheet) at in
          instr_is e g r.sheet r.next (omega arith) k.next ∙
          ap (λ (x : Spot). get_or e.program (base_of x.sheet + x.next) instr0) (sym at)

      below : Touches (act_in e w p r) → target (act_in e w p r) < length K.values
      below =
          subst (λ (x : Instr). Touches (act_of x r.registers) → target (act_of x r.registers) < length K.values) instr_at_lem
          k.names

      named : Touches (act_in e w p r) → (places_of e w p).word ≡ target (act_in e w p r)
      unfolding places_of
      named t =
          let cut : (places_of e w p).word ≡ target (act_in e w p r) % most_words =
          ap (λ (x : Places). word_of (get_or e.program x.instr instr0) % most_words) places_are ∙
          ap (λ (n : ℕ). n % most_words) (sym (target_is (instr_at e w p) r.registers t)) in
          omega (arith, cut, below t, u.words)

      pub run_at : RunAt K e w p r
      run_at =
          let n : r.next + far_of (act_in e w p r) < length (program_of e r.sheet) =
          subst (λ (x : Instr). r.next + far_of (act_of x r.registers) < length (program_of e r.sheet)) instr_at_lem k.far in
          record {
            instr = instr_at_lem;
            far = omega (arith, k.short, u.most);
            place = omega (arith, k.place, u.most);
            word = named;
            below = below;
          }
