-- The example and the file, computed from the bytes by the definitions of the calls.
use mathlib.Core.Path.{refl}
use native.Mathlib.Omega.{arith}
use Rattle.arrays.specs.Fresh.{words_from}
use Rattle.parts.specs.Instr.{asks_of, follows_of, word_of}
use Rattle.parts.specs.Lay.{lay}
use Rattle.parts.specs.Parts as parts
use Rattle.parts.specs.Parts.{committed_of, holds_of, is_first, register_of, with_register, worn_of}
use Rattle.parts.specs.Told.{answer_number, refusal_number, refusal_place}
use Rattle.records.specs.Bytes.{u32s_of}
use Rattle.records.specs.Job.{badly_formed, code_told, instr_told, instrs_of, told_by, strays_at}
use Rattle.records.specs.Setup.{guards_told, setup_told, turns_told}
use Rattle.sheets.specs.Sheets.{any_of, in_use_of, lowest_of}
use Rattle.steps.specs.Places.{helped_of, spot_of}
use Rattle.steps.specs.Try as try
use Rattle.steps.specs.Worker as worker
use Rattle.engine.specs.Calls.{begin_of, begin_told, begun_of, collect_of, drop_of, fresh_of, read_lock_of, read_word_of, setup_of, step_of}
use Rattle.engine.specs.State.{blank_of}
use Rattle.engine.specs.Step.{places_of, put_at, view_at}
use Rattle.past.specs.Past.{after, after_all, AllRecords}
use Rattle.calls.specs.Record.{bad_head, record_told, call_with, job_in, record_with, call_record}
use Rattle.text.specs.Text.{decimal_from, number_text, pair_text, three_text}
use Rattle.files.specs.File.{call_line, walk_from, told_of, lines_text, number_line, setup_text, printed_of}
use Rattle.tables.specs.Table.{setup_s, job_a, fresh}
use Rattle.tables.proofs.Bytes.{job_bytes_lem}
use Rattle.recorded.specs.Recorded.{is_written, records_of, lines_along}
use Rattle.recorded.specs.Shown.{sample_calls, Shown}

pub shown : Shown
unfolding words_from asks_of follows_of word_of lay parts.grab_of parts.release_of parts.swap_of committed_of holds_of is_first worker.counted_of register_of with_register worn_of answer_number refusal_number refusal_place u32s_of badly_formed code_told instr_told instrs_of told_by strays_at guards_told setup_told turns_told any_of in_use_of lowest_of helped_of spot_of try.answer_of try.commit_step try.effect_of try.follow_step try.grab_step try.look_again_step try.look_step try.mark_step try.read_mark_step try.read_step try.release_step try.swap_step worker.began_of worker.begin_by_state worker.collect_by_state worker.collected_of worker.drop_by_state worker.dropped_of worker.step_by_state begin_of begin_told begun_of collect_of drop_of fresh_of read_lock_of read_word_of setup_of step_of blank_of places_of put_at view_at after after_all setup_s job_a fresh AllRecords bad_head record_told call_with job_in record_with call_record decimal_from number_text pair_text three_text told_of call_line walk_from lines_text number_line setup_text printed_of is_written records_of lines_along sample_calls
shown = record {
  request = refl;
  cut_setup = refl;
  other_kind = refl;
  no_locks = refl;
  file = record { accepted = refl; bytes = (job_bytes_lem, (λ k. omega arith, tt)); most = omega arith };
  lines = refl;
  text = refl;
  five = refl;
  six = refl;
  none = refl;
  many = refl;
  kinds = ((refl, refl, refl), (refl, refl, refl), (refl, refl, refl), (refl, refl, refl));
}
