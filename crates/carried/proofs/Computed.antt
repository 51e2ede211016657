-- Row a once more, computed on the numbers themselves: a run of the definitions over 12,868 numbers, and by no law but that zeros laid
-- over zeros are zeros. So the laws and the definitions agree on a whole history.
use Rattle.std.specs.Prelude.{Ok}
use Prim.Native.Nat.{ℕ}
use mathlib.Core.Path.{◌≡◌, refl, sym, ap, ◌∙◌, subst}
use mathlib.Core.List.{List, [], ◌∷◌}
use lib.ListN.{replicate}
use Rattle.arrays.specs.Fresh.{words_from}
use Rattle.parts.specs.Instr.{word_of}
use Rattle.parts.specs.Lay.{lay}
use Rattle.parts.proofs.Lay.{lay_whole}
use Rattle.parts.specs.Parts as parts
use Rattle.parts.specs.Parts.{register_of, worn_of}
use Rattle.parts.specs.Told.{on_told, answer_number, refusal_number, refusal_place}
use Rattle.parts.specs.Told.{Told}
use Rattle.records.specs.Bytes.{u32s_of}
use Rattle.records.specs.Job.{badly_formed, code_told, instr_told, instrs_of, told_by, strays_at}
use Rattle.records.specs.Setup.{guards_told, setup_told, turns_told}
use Rattle.sheets.specs.Sheets.{any_of, in_use_of, lowest_of}
use Rattle.steps.specs.Places.{helped_of}
use Rattle.steps.specs.Try as try
use Rattle.steps.specs.Worker as worker
use Rattle.engine.specs.Calls.{begin_told, collect_of, read_lock_of, read_word_of}
use Rattle.past.specs.Past.{Begin, steps}
use Rattle.tables.specs.Table.{setup_s, job_a, ran_yes}
use Rattle.cells.specs.Codes.{at_register, answer_in, state_in, worker_numbers}
use Rattle.cells.specs.Layout.{numbers, unpack, number_at, run_now, read_now, seen_now, put_number, put_sizes, blanked}
use Rattle.cells.specs.Pieces.{tab, pieces_of, put_piece}
use Rattle.lent_moves.specs.Moves.{stepped_to, to_grab, to_look_again, to_read_mark, cleared, started, passed, went, to_mark, holding, logged, loaded, to_swap, finished, counted}
use Rattle.lent_moves.specs.Looks.{instr_now}
use Rattle.lent_step.specs.Points.{looked, look_numbers, grab_numbers, look_again_numbers, started_own, started_seen, mark_read, read_mark_numbers, first_numbers, read_numbers, follow_numbers, entry_filled, committed, commit_numbers, swap_numbers, mark_numbers, release_numbers, onward_numbers, step_numbers}
use Rattle.lent_in.specs.Laid.{put_all}
use Rattle.lent_in.specs.Calls.{filled_numbers, setup_numbers, copied_numbers, begun_numbers, begin_numbers}
use Rattle.door.specs.Calls.{setup_left, collect_reply}
use Rattle.door.specs.Door.{refusal_reply}
use Rattle.carried.specs.Carried.{lent_all, lent_after}
use Rattle.carried.specs.Shown.{zeros, refused_by, LentStands, LentEnds}
use Rattle.carried.proofs.Carried.{enough}
use Rattle.carried.proofs.Shown.{wide}

-- the zeros of the setup are those that were lent
blank_already : blanked zeros ≡ zeros
unfolding blanked zeros
blank_already = lay_whole (replicate numbers 0) (replicate numbers 0) refl

accepted : setup_told setup_s ≡ Ok tt
unfolding setup_told guards_told turns_told u32s_of setup_s
accepted = refl

-- so a lent setup of S writes L and W, three words and two locks
after_setup : setup_left zeros setup_s ≡ filled_numbers zeros setup_s
unfolding setup_numbers
after_setup =
    enough zeros zeros (setup_numbers zeros setup_s) wide ∙
    ap (λ (t : Told). on_told t (filled_numbers (blanked zeros) setup_s) (λ r. blanked zeros)) accepted ∙
    ap (λ (s : List ℕ). filled_numbers s setup_s) blank_already

-- "A stepped alone" from the numbers s: "14 steps, ran yes, word 0 = 6, count 1, turn 1"
record RowA (s : List ℕ) : Type 0 where
  before : collect_reply (lent_all s (Begin 0 0 job_a ∷ steps 13 0)) 0 ≡ refused_by 3
  told :
      collect_reply (lent_all s (Begin 0 0 job_a ∷ steps 14 0)) 0 ≡
      record { number = 0; place = 0; answer = ran_yes; steps = 14; filled = 2 }
  left : LentStands (lent_all s (Begin 0 0 job_a ∷ steps 14 0)) 6 1 1 0 0

computed : RowA (filled_numbers zeros setup_s)
unfolding words_from word_of lay parts.grab_of parts.release_of parts.holds_of parts.swap_of register_of worn_of answer_number refusal_number refusal_place u32s_of badly_formed code_told instr_told instrs_of told_by strays_at guards_told setup_told turns_told any_of in_use_of lowest_of helped_of try.answer_of worker.began_of worker.begin_by_state worker.collect_by_state worker.step_by_state begin_told collect_of read_lock_of read_word_of setup_s job_a answer_in state_in worker_numbers unpack put_sizes tab pieces_of put_piece number_at put_number run_now read_now seen_now at_register stepped_to to_grab to_look_again to_read_mark cleared started passed went to_mark holding logged loaded to_swap finished counted instr_now looked look_numbers grab_numbers look_again_numbers started_own started_seen mark_read read_mark_numbers first_numbers read_numbers follow_numbers entry_filled committed commit_numbers swap_numbers mark_numbers release_numbers onward_numbers step_numbers put_all filled_numbers copied_numbers begun_numbers begin_numbers lent_all lent_after zeros refusal_reply
computed = record { before = refl; told = refl; left = record { word = refl; lock = refl } }

pub row_a : LentEnds (Begin 0 0 job_a ∷ []) 0 (record { more = 14; answer = ran_yes; steps = 14; filled = 2; value = 6; count = 1; turn = 1 })
row_a =
    let r : RowA (setup_left zeros setup_s) = subst (λ (s : List ℕ). RowA s) (sym after_setup) computed in
    record { before = r.before; told = r.told; left = r.left }
