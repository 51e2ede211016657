-- One record of a walk, on each way; and what is left of a walk's text.
use Prim.Native.Nat.{ℕ, zero, suc, ◌+◌, ◌-◌, ◌*◌, ◌≤◌, ◌<◌}
use mathlib.Core.Path.{◌≡◌, refl, ◌∙◌, sym, ap, subst}
use mathlib.Core.Bool.{Bool, true, false}
use mathlib.Core.List.{List, [], ◌∷◌, ◌++◌, append-nil}
use native.Mathlib.Omega.{arith}
use lib.ListN.{length, take, drop, length-drop, length-append, drop_of_length-le}
use lib.Seq.{drop-drop}
use Rattle.parts.specs.Lay.{lay}
use Rattle.parts.specs.Told.{refusal_number}
use Rattle.parts.specs.declared.Refusal.{Refusal}
use Rattle.parts.specs.declared.Refusal.TheVariants.{Length}
use Rattle.parts.specs.Told.{Told}
use Rattle.parts.proofs.Laws.{pick_true_by, pick_false_by}
use Rattle.parts.proofs.Lay.{lay-append, length-lay}
use Rattle.records.specs.Bytes.{length_field}
use Rattle.records.proofs.Laws.{part_end}
use Rattle.engine.specs.Calls.{setup_of}
use Rattle.engine.specs.State.{blank_of}
use Rattle.engine.specs.declared.Engine.{Engine}
use Rattle.engine.specs.declared.Outcome.{Outcome}
use Rattle.past.specs.Past.{after}
use Rattle.calls.specs.Record.{record_told, call_in}
use Rattle.std.specs.Prelude.{Result, None, Some, Ok, Err}
use Rattle.std.proofs.Common.{Bor}
use Rattle.calls.specs.declared.reader.Reader.{Reader}
use Rattle.calls.specs.Reader.{Item, item_at, past_at}
use Rattle.calls.proofs.Items.{at_record, at_refused, item_inside, item_none}
use Rattle.calls.proofs.Laws.{holds}
use Rattle.text.specs.Text.{newline, Puts, decimal_of}
use Rattle.text.proofs.Written.{puts_both, puts_same}
use Rattle.files.specs.File.{refused_line, call_line, Walked, ◌before◌, walk_from, most_line, line_text, lines_text, number_line, setup_text, setup_state, most_file, no_setup, printed_of, replayed_state, most_text}
use Rattle.files.specs.Made.{made_of}
use Rattle.files.specs.declared.make.Line.{Line}

-- n bytes that are passed over
walk_drop : (n : ℕ) (e : Engine) (s : List ℕ) → walk_from n e s ≡ walk_from zero e (drop n s)
unfolding walk_from
walk_drop zero e s = refl
walk_drop (suc n) e [] = refl
walk_drop (suc n) e (b ∷ s) = walk_drop n e s

pub walk_end : (e : Engine) (s : List ℕ) → s ≡ [] → walk_from zero e s ≡ record { lines = []; engine = e }
unfolding walk_from
walk_end e s h = simp h

pub walk_refused :
    (e : Engine) (s : List ℕ) (r : Refusal) → 0 < length s → record_told s ≡ Err r →
    walk_from zero e s ≡ record { lines = refused_line r ∷ []; engine = e }
unfolding walk_from
walk_refused e [] r k h = absurd (omega arith)
walk_refused e (b ∷ s) r k h = simp h

pub walk_record :
    (e : Engine) (s : List ℕ) → record_told s ≡ Ok tt →
    walk_from zero e s ≡ (call_line e (call_in s) before walk_from zero (after e (call_in s)) (drop (length_field s) s))
unfolding walk_from
walk_record e [] h = absurd (omega (arith, (holds [] h).least, (holds [] h).whole))
walk_record e (b ∷ s) h =
    simp h (ap (λ (w : Walked). call_line e (call_in (b ∷ s)) before w) (past (length_field (b ∷ s)) (holds (b ∷ s) h).least))
  where
    past :
        (n : ℕ) → 8 ≤ n →
        walk_from (n - 1) (after e (call_in (b ∷ s))) s ≡ walk_from zero (after e (call_in (b ∷ s))) (drop n (b ∷ s))
    past zero k = absurd (omega arith)
    past (suc n) k =
        let q : suc n - 1 ≡ n = omega arith in
        simp q (walk_drop n (after e (call_in (b ∷ s))) s)

-- What a walk has yet to do: its reader reads the file, the lines that it is to put from place `at` of the buffer on are what is left of
-- all its text, and there is room.
pub record Left (file all out₀ : List ℕ) (last e : Engine) (reader : Reader) (index at : ℕ) (out : List ℕ) : Type 0 where
  pub bytes : reader.bytes.now ≡ file
  pub laid : lay 0 all out₀ ≡ lay at (lines_text index (walk_from zero e (drop reader.place file)).lines) out
  pub count : length all ≡ at + length (lines_text index (walk_from zero e (drop reader.place file)).lines)
  pub state : last ≡ (walk_from zero e (drop reader.place file)).engine
  pub room : at ≤ most_line * index
  pub passed : 8 * index ≤ reader.place
  pub within : (reader.place ≤ length file) × (length file ≤ most_file)
  pub size : most_text ≤ length out
  pub same : length out ≡ length out₀

start :
    (file out : List ℕ) (e : Engine) (from : ℕ) (first reader : Reader) → (first.bytes.now ≡ file) × (first.place ≡ from) → reader ≡ first →
    from ≤ length file → length file ≤ most_file → most_text ≤ length out →
    Left file (lines_text 0 (walk_from zero e (drop from file)).lines) out (walk_from zero e (drop from file)).engine e reader 0 0 out
start file out e from first reader q same h k s =
    let place = ap (λ (r : Reader). r.place) same ∙ q.1 in
    let walk = ap (λ (p : ℕ). walk_from zero e (drop p file)) (sym place) in
    record {
      bytes = ap (λ (r : Reader). r.bytes.now) same ∙ q.0;
      laid = ap (λ (w : Walked). lay 0 (lines_text 0 w.lines) out) walk;
      count = omega (arith, ap (λ (w : Walked). length (lines_text 0 w.lines)) walk);
      state = ap (λ (w : Walked). w.engine) walk;
      room = omega arith;
      passed = omega arith;
      within = (omega (arith, place), k);
      size = s;
      same = refl;
    }

pub left_start :
    (file out : List ℕ) (e : Engine) (from index : ℕ) (first reader : Reader) → (first.bytes.now ≡ file) × (first.place ≡ from) →
    reader ≡ first → index ≡ 0 → from ≤ length file → length file ≤ most_file → most_text ≤ length out →
    Left file (lines_text 0 (walk_from zero e (drop from file)).lines) out (walk_from zero e (drop from file)).engine e reader index 0 out
left_start file out e from index first reader q same z h k s =
    subst
    (λ (i : ℕ).
    Left file (lines_text 0 (walk_from zero e (drop from file)).lines) out (walk_from zero e (drop from file)).engine e reader i 0 out)
    (sym z) (start file out e from first reader q same h k s)

module _
    (file all out₀ out : List ℕ) (last e : Engine) (reader : Reader) (index at : ℕ) (l : Left file all out₀ last e reader index at out) where
  abbrev place : ℕ
  place = reader.place

  -- what the reader hands out stands in the file
  in_file : (i : Item) → i ≡ item_at reader.bytes.now place → i ≡ item_at file place
  in_file i q = q ∙ ap (λ (b : List ℕ). item_at b place) l.bytes

  -- all is put
  pub left_end : None ≡ item_at reader.bytes.now reader.place → Puts 0 most_text all out₀ out at
  unfolding lines_text lay
  left_end q =
      let h = item_none file place (in_file None q) in
      let w = walk_end e (drop place file) (drop_of_length-le file h) in
      let n : length all ≡ at =
      l.count ∙ ap (λ (v : Walked). at + length (lines_text index v.lines)) w ∙ omega arith in
      record {
        place = omega (arith, n);
        within = omega (arith, l.room, l.passed, l.within.0, l.within.1);
        laid = sym (l.laid ∙ ap (λ (v : Walked). lay at (lines_text index v.lines) out) w);
      }

  pub left_end_state : None ≡ item_at reader.bytes.now reader.place → e ≡ last
  left_end_state q =
      let h = item_none file place (in_file None q) in
      sym (l.state ∙ ap (λ (v : Walked). v.engine) (walk_end e (drop place file) (drop_of_length-le file h)))

  module _ (x : Result (ℕ × ℕ) Refusal) (p : Some x ≡ item_at reader.bytes.now reader.place) where
    q : Some x ≡ item_at file place
    q = in_file (Some x) p

    k : place < length file
    k = item_inside file place x q

    pub line_room : at + most_line ≤ length out
    line_room = omega (arith, k, l.room, l.passed, l.within.1, l.size)

    left_index : index < 8192
    left_index = omega (arith, k, l.passed, l.within.1)

    some_left : 0 < length (drop place file)
    some_left = omega (arith, k, length-drop place file)

    -- the last line
    pub left_refused :
        (r : Refusal) (line : Line) (i next : ℕ) (out' : List ℕ) → x ≡ Err r → line ≡ refused_line r → i ≡ index →
        Puts at most_line (line_text i line) out out' next → Puts 0 most_text all out₀ out' next
    unfolding lines_text lay
    left_refused r line i next out' f g z puts =
        let u : Puts at most_line (line_text index line) out out' next =
        puts_same at next most_line most_line _ _ out out' puts (ap (λ (j : ℕ). line_text j line) z) (omega arith) in
        let t = at_refused file place (Some x) k q r (ap Some f) in
        let w = walk_refused e (drop place file) r some_left t in
        let y : lines_text index (walk_from zero e (drop place file)).lines ≡ line_text index line =
        ap (λ (v : Walked). lines_text index v.lines) w ∙ append-nil (line_text index (refused_line r)) ∙
        ap (line_text index) (sym g) in
        let n : length all ≡ at + length (line_text index line) = l.count ∙ ap (λ (t : List ℕ). at + length t) y in
        record {
          place = omega (arith, n, u.place);
          within = omega (arith, u.within, l.room, left_index);
          laid = u.laid ∙ sym (l.laid ∙ ap (λ (t : List ℕ). lay at t out) y);
        }

    pub left_refused_state : (r : Refusal) → x ≡ Err r → e ≡ last
    left_refused_state r f =
        let t = at_refused file place (Some x) k q r (ap Some f) in
        sym (l.state ∙ ap (λ (v : Walked). v.engine) (walk_refused e (drop place file) r some_left t))

    -- one record
    module _ (here to : ℕ) (f : x ≡ Ok (here, to)) where
      abbrev rest : List ℕ
      rest = take (length file - here) (drop here file)

      known :
          (record_told (drop place file) ≡ Ok tt) × (here ≡ place) ×
          (past_at file place ≡ place + length_field (drop place file))
      known = at_record file place (Some x) k q here to (ap Some f)

      rest_is : rest ≡ drop place file
      rest_is = part_end here file ∙ ap (λ (n : ℕ). drop n file) known.1

      pub here_within : here ≤ length file
      here_within = omega (arith, known.1)

      pub here_accepted : record_told rest ≡ Ok tt
      here_accepted = ap record_told rest_is ∙ known.0

      module _ (line : Line) (next_e : Engine) (g : line ≡ (made_of e (call_in rest)).line) (d : next_e ≡ (made_of e (call_in rest)).engine) where
        line_is : line ≡ call_line e (call_in (drop place file))
        unfolding made_of
        line_is = g ∙ ap (λ (t : List ℕ). call_line e (call_in t)) rest_is

        after_is : next_e ≡ after e (call_in (drop place file))
        unfolding made_of
        after_is = d ∙ ap (λ (t : List ℕ). after e (call_in t)) rest_is

        -- reading goes on past it
        module _ (past : Reader) (u : past.place ≡ past_at reader.bytes.now reader.place) (v : past.bytes ≡ reader.bytes) where
          past_is : past.place ≡ place + length_field (drop place file)
          past_is = u ∙ ap (λ (b : List ℕ). past_at b place) l.bytes ∙ known.2

          walk_is : walk_from zero e (drop place file) ≡ (line before walk_from zero next_e (drop past.place file))
          walk_is = walk_record e (drop place file) known.0 ∙ simp (line_is, after_is, drop-drop, past_is)

          left_next :
              (next : ℕ) (out' : List ℕ) → Puts at most_line (line_text index line) out out' next →
              Left file all out₀ last next_e past (index + 1) next out'
          unfolding lines_text
          left_next next out' puts =
              let later = lines_text (index + 1) (walk_from zero next_e (drop past.place file)).lines in
              let y : lines_text index (walk_from zero e (drop place file)).lines ≡ line_text index line ++ later =
              ap (λ (w : Walked). lines_text index w.lines) walk_is in
              let n : length all ≡ at + length (line_text index line ++ later) =
              l.count ∙ ap (λ (t : List ℕ). at + length t) y in
              let c = holds (drop place file) known.0 in
              let kept : length out' ≡ length out = ap length puts.laid ∙ length-lay at (line_text index line) out in
              record {
                bytes = ap (λ (x : Bor (List ℕ)). x.now) v ∙ l.bytes;
                laid =
                    l.laid ∙ ap (λ (t : List ℕ). lay at t out) y ∙ lay-append at (line_text index line) later out ∙
                    ap (λ (o : List ℕ). lay (at + length (line_text index line)) later o) (sym puts.laid) ∙
                    ap (λ (j : ℕ). lay j later out') (sym puts.place);
                count = omega (arith, n, puts.place, length-append (line_text index line) later);
                state = l.state ∙ ap (λ (w : Walked). w.engine) walk_is;
                room = omega (arith, puts.within, l.room);
                passed = omega (arith, l.passed, past_is, c.least);
                within = (omega (arith, past_is, c.whole, length-drop place file), l.within.1);
                size = omega (arith, kept, l.size);
                same = kept ∙ l.same;
              }

          pub left_record :
              (i count next : ℕ) (out' : List ℕ) → i ≡ index → count ≡ index + 1 →
              Puts at most_line (line_text i line) out out' next → Left file all out₀ last next_e past count next out'
          left_record i count next out' y z puts =
              subst (λ (j : ℕ). Left file all out₀ last next_e past j next out') (sym z)
              (left_next next out'
              (puts_same at next most_line most_line _ _ out out' puts (ap (λ (j : ℕ). line_text j line) y) (omega arith)))

-- a number alone on a line
pub alone :
    (m mid next : ℕ) (r : Refusal) (a b c : List ℕ) → m ≡ refusal_number r → Puts 0 20 (decimal_of m) a b mid →
    Puts mid 1 (newline ∷ []) b c next → Puts 0 21 (number_line r) a c next
unfolding number_line
alone m mid next r a b c e p q =
    puts_same 0 next 21 21 (decimal_of m ++ (newline ∷ [])) _ a c (puts_both 0 mid next 20 1 21 _ _ a b c p q (omega arith))
    (ap (λ (n : ℕ). decimal_of n ++ (newline ∷ [])) e) (omega arith)

-- what is printed, by what setup gave of the file's first n bytes
module _ (file a b : List ℕ) (n next : ℕ) (d : Outcome) (q : d ≡ setup_of (take n file)) where
  told_is : (t : Told) → d.told ≡ t → (setup_of (take n file)).told ≡ t
  told_is t h = sym (ap (λ (x : Outcome). x.told) q) ∙ h

  pub printed_refused :
      (t : Told) (r : Refusal) → t ≡ d.told → t ≡ Err r → Puts 0 21 (number_line r) a b next →
      Puts 0 most_text (setup_text file n) a b next
  unfolding setup_text
  printed_refused t r e h p =
      puts_same 0 next 21 most_text (number_line r) _ a b p (sym (simp (told_is (Err r) (sym e ∙ h)))) (omega arith)

  pub printed_walk :
      (t : Told) → t ≡ d.told → t ≡ Ok tt →
      Puts 0 most_text (lines_text 0 (walk_from zero d.engine (drop n file)).lines) a b next →
      Puts 0 most_text (setup_text file n) a b next
  unfolding setup_text
  printed_walk t e h p =
      puts_same 0 next most_text most_text _ _ a b p
      (ap (λ (x : Outcome). lines_text 0 (walk_from zero x.engine (drop n file)).lines) q ∙ sym (simp (told_is (Ok tt) (sym e ∙ h))))
      (omega arith)

  pub state_refused : (t : Told) (r : Refusal) (x : Engine) → t ≡ d.told → t ≡ Err r → x ≡ blank_of → x ≡ setup_state file n
  unfolding setup_state
  state_refused t r x e h p = p ∙ sym (simp (told_is (Err r) (sym e ∙ h)))

  pub state_walk :
      (t : Told) (x : Engine) → t ≡ d.told → t ≡ Ok tt → x ≡ (walk_from zero d.engine (drop n file)).engine →
      x ≡ setup_state file n
  unfolding setup_state
  state_walk t x e h p =
      p ∙ ap (λ (y : Outcome). (walk_from zero y.engine (drop n file)).engine) q ∙ sym (simp (told_is (Ok tt) (sym e ∙ h)))

-- a file of which a callee found whether it has a setup
module _ (file : List ℕ) (r : Bool) (q : r ≡ no_setup file) where
  pub printed_five : (a b : List ℕ) (next : ℕ) → r ≡ true → Puts 0 21 (number_line Length) a b next → Puts 0 most_text (printed_of file) a b next
  unfolding printed_of
  printed_five a b next h p = puts_same 0 next 21 most_text _ _ a b p (pick_true_by r _ _ _ _ q h refl) (omega arith)

  pub state_five : (x : Engine) → r ≡ true → x ≡ blank_of → x ≡ replayed_state file
  unfolding replayed_state
  state_five x h p = pick_true_by r _ _ _ _ q h p

  module _ (h : r ≡ false) where
    module _ (n : ℕ) (e : n ≡ length_field file) where
      pub printed_rest :
          (a b : List ℕ) (next : ℕ) → Puts 0 most_text (setup_text file n) a b next → Puts 0 most_text (printed_of file) a b next
      unfolding printed_of
      printed_rest a b next p =
          puts_same 0 next most_text most_text _ _ a b p (pick_false_by r _ _ _ _ q h (ap (setup_text file) e)) (omega arith)

      pub state_rest : (x : Engine) → x ≡ setup_state file n → x ≡ replayed_state file
      unfolding replayed_state
      state_rest x p = pick_false_by r _ _ _ _ q h (p ∙ ap (setup_state file) e)
