-- The promises of recorded calls.
use Rattle.std.specs.Prelude.{Err}
use Prim.Native.Nat.{ℕ, ◌≤◌, ◌<◌}
use mathlib.Core.Path.{◌≡◌, ◌∙◌, sym, ap, ap₂}
use mathlib.Core.List.{List, [], ◌++◌, append_assoc, append-nil}
use native.Mathlib.Omega.{arith}
use lib.ListN.{length, take, length-append}
use lib.Seq.{take-append_seam}
use Rattle.engine.specs.Calls.{setup_of}
use Rattle.past.specs.Past.{Call, after_all}
use Rattle.files.specs.File.{refused_line, Walked, walk_from, line_text, lines_text, walked_from, most_file, printed_of, replayed_state}
use Rattle.files.specs.declared.make.Line.{Line}
use Rattle.records.specs.Bytes.{length_field}
use Rattle.calls.specs.Record.{record_told, call_record}
use Rattle.files.proofs.Walks.{walk_refused}
use Rattle.parts.specs.declared.Refusal.{Refusal}
use Rattle.engine.specs.declared.Engine.{Engine}
use Rattle.recorded.specs.Recorded.{records_of, file_of, lines_along, OneEncoding, RecordWriter, NothingLost, IsFile, Replays}
use Rattle.recorded.proofs.Encoding.{read_back, whole_call}
use Rattle.recorded.proofs.Same.{told_same, left_same, refused_kept, wrote_front, unwritten_refused}
use Rattle.recorded.proofs.Replay.{lines_both, records_both, walked, printed, left_state, walk_none, bytes_before, splits}

pub one_encoding : OneEncoding
one_encoding = record {
  back = read_back;
  whole = whole_call;
  one = λ s t a b h k e. (whole_call s a h).1 ∙ ap call_record e ∙ sym (whole_call t b k).1;
}

pub record_writer : RecordWriter
record_writer = record { kept = refused_kept; wrote = wrote_front }

pub nothing_lost : NothingLost
nothing_lost = record { told = told_same; left = left_same; unwritten = unwritten_refused }

module _ (setup : List ℕ) (cs : List Call) where
  abbrev told : List Line
  told = lines_along (setup_of setup).engine cs

  abbrev left : Engine
  left = after_all (setup_of setup).engine cs

  -- a file with nothing after it
  alone : file_of setup cs ++ [] ≡ file_of setup cs
  alone = append-nil (file_of setup cs)

  module _ (f : IsFile setup cs) where
    fits : length (file_of setup cs ++ []) ≤ most_file
    fits = omega (arith, ap length alone, f.most)

    answers_are : (walked_from (file_of setup cs) (length_field (file_of setup cs))).lines ≡ told
    answers_are =
        ap (λ (s : List ℕ). (walked_from s (length_field s)).lines) (sym alone) ∙
        ap (λ (w : Walked). w.lines) (walked setup cs [] f ∙ walk_none left told)

    printed_is : printed_of (file_of setup cs) ≡ lines_text 0 told
    printed_is =
        ap printed_of (sym alone) ∙ printed setup cs [] f fits ∙ ap (λ (w : Walked). lines_text 0 w.lines) (walk_none left told)

    state_is : replayed_state (file_of setup cs) ≡ left
    state_is = ap replayed_state (sym alone) ∙ left_state setup cs [] f fits ∙ ap (λ (w : Walked). w.engine) (walk_none left told)

    module _ (rest : List ℕ) (m : length (file_of setup cs ++ rest) ≤ most_file) where
      follows_it :
          printed_of (file_of setup cs ++ rest) ≡ printed_of (file_of setup cs) ++ lines_text (length told) (walk_from 0 left rest).lines
      follows_it =
          printed setup cs rest f m ∙ lines_both 0 told (walk_from 0 left rest).lines ∙
          ap₂ (λ (t : List ℕ) (n : ℕ). t ++ lines_text n (walk_from 0 left rest).lines) (sym printed_is) (omega arith)

      ends_it :
          (r : Refusal) → 0 < length rest → record_told rest ≡ Err r →
          (printed_of (file_of setup cs ++ rest) ≡ printed_of (file_of setup cs) ++ line_text (length told) (refused_line r)) ×
          (replayed_state (file_of setup cs ++ rest) ≡ left)
      unfolding lines_text
      ends_it r k h =
          let w = walk_refused left rest r k h in (
            follows_it ∙ ap (λ (v : Walked). printed_of (file_of setup cs) ++ lines_text (length told) v.lines) w ∙
                ap (λ (t : List ℕ). printed_of (file_of setup cs) ++ t) (append-nil (line_text (length told) (refused_line r))),
            left_state setup cs rest f m ∙ ap (λ (v : Walked). v.engine) w,
          )

-- a cut at a record's edge
cut_is :
    (setup : List ℕ) (cs more : List Call) → IsFile setup (cs ++ more) →
    (take (length (file_of setup cs)) (file_of setup (cs ++ more)) ≡ file_of setup cs) × IsFile setup cs
cut_is setup cs more f =
    let e : file_of setup (cs ++ more) ≡ file_of setup cs ++ records_of more =
    ap (λ (s : List ℕ). setup ++ s) (records_both cs more) ∙ sym (append_assoc setup (records_of cs) (records_of more)) in (
      ap (take (length (file_of setup cs))) e ∙ take-append_seam (file_of setup cs) (records_of more),
      record {
        accepted = f.accepted;
        bytes = bytes_before cs more f.bytes;
        most = omega (arith, f.most, ap length e, length-append (file_of setup cs) (records_of more));
      },
    )

pub replays : Replays
replays = record {
  cut = cut_is;
  state = state_is;
  answers = answers_are;
  printed = printed_is;
  follows = λ setup cs rest f m. follows_it setup cs f rest m;
  ends = λ setup cs rest r f m k h. ends_it setup cs f rest m r k h;
  every = λ s b. splits (length s) s (omega arith) b;
}
