-- The worked instructions, computed from the bytes by the definitions of the calls.
use mathlib.Core.Path.{refl}
use Rattle.arrays.specs.Fresh.{words_from}
use Rattle.arrays.specs.Held.{held_told}
use Rattle.parts.specs.Instr.{asks_of, follows_of, word_of}
use Rattle.parts.specs.Lay.{lay}
use Rattle.parts.specs.Parts as parts
use Rattle.parts.specs.Parts.{committed_of, holds_of, is_first, register_of, with_register, worn_of}
use Rattle.records.specs.Bytes.{u32s_of, u32s_bytes}
use Rattle.records.specs.Job.{badly_formed, code_told, instr_told, instrs_of, told_by, strays_at}
use Rattle.records.specs.Setup.{guards_told, setup_told, turns_told}
use Rattle.sheets.specs.Sheets.{any_of, in_use_of, lowest_of}
use Rattle.steps.specs.Places.{helped_of, spot_of}
use Rattle.steps.specs.Try as try
use Rattle.steps.specs.Worker as worker
use Rattle.alone.specs.Alone.{alone_from}
use Rattle.engine.specs.Calls.{begin_of, begin_told, begun_of, collect_of, fresh_of, park_of, park_told, parked_of, read_lock_of, read_word_of, setup_of, step_of}
use Rattle.engine.specs.State.{blank_of}
use Rattle.engine.specs.Step.{places_of, put_at, view_at}
use Rattle.past.specs.Past.{after, after_all}
use Rattle.tables.specs.Worked.{setup_v, job_moves, job_sums, job_cams, job_skips, fresh_v, Worked}

pub worked : Worked
unfolding words_from asks_of follows_of word_of lay parts.grab_of parts.release_of parts.swap_of committed_of holds_of is_first worker.counted_of register_of with_register worn_of u32s_of u32s_bytes held_told alone_from badly_formed code_told instr_told instrs_of told_by strays_at guards_told setup_told turns_told any_of in_use_of lowest_of helped_of spot_of try.answer_of try.commit_step try.effect_of try.follow_step try.grab_step try.look_again_step try.look_step try.mark_step try.read_mark_step try.read_step try.release_step try.swap_step worker.began_of worker.begin_by_state worker.collect_by_state worker.collected_of worker.step_by_state begin_of begin_told begun_of collect_of fresh_of park_of park_told parked_of read_lock_of read_word_of setup_of step_of blank_of places_of put_at view_at after after_all setup_v job_moves job_sums job_cams job_skips fresh_v
worked =
    record {
      setup = refl;
      fresh = record { word = refl; lock = refl };
      moves = record { before = refl; told = refl; left = record { word = refl; lock = refl }; alone = refl };
      sums = record { before = refl; told = refl; left = record { word = refl; lock = refl }; alone = refl };
      cams = record { before = refl; told = refl; left = record { word = refl; lock = refl }; alone = refl };
      skips = record { before = refl; told = refl; left = record { word = refl; lock = refl }; alone = refl };
      parked = (refl, refl);
    }
