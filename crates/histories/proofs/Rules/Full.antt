-- Request 06's bound is reached: a history of calls after which 30 sheets are in use and a worker begins.
use Rattle.std.specs.Prelude.{Ok}
use Prim.Native.Nat.{ℕ, zero, suc}
use mathlib.Core.Path.{◌≡◌, refl}
use mathlib.Core.List.{List, [], ◌∷◌, ◌++◌}
use lib.ListN.{replicate}
use Rattle.parts.specs.Instr.{asks_of, follows_of, word_of}
use Rattle.parts.specs.Lay.{lay}
use Rattle.parts.specs.Parts as parts
use Rattle.parts.specs.Parts.{committed_of, holds_of, is_first, register_of, with_register, worn_of}
use Rattle.parts.specs.Numbers.{sheets}
use Rattle.records.specs.Bytes.{AllBytes, u32s_of}
use Rattle.records.specs.Job.{badly_formed, code_told, instr_told, instrs_of, told_by, strays_at}
use Rattle.records.specs.Setup.{guards_told, setup_told, turns_told}
use Rattle.arrays.specs.Fresh.{words_from}
use Rattle.sheets.specs.Counted.{used_of}
use Rattle.sheets.specs.Sheets.{any_of, in_use_of, lowest_of}
use Rattle.steps.specs.Places.{helped_of, spot_of}
use Rattle.steps.specs.Try as try
use Rattle.steps.specs.Worker as worker
use Rattle.steps.specs.declared.State.TheVariants.{Idle}
use Rattle.engine.specs.Step.{places_of, put_at, view_at}
use Rattle.engine.specs.Calls.{begin_of, begin_told, begun_of, collect_of, drop_of, fresh_of, setup_of, step_of}
use Rattle.engine.specs.State.{blank_of, worker_at, in_use, free_sheet}
use Rattle.past.specs.Past.{Call, Begin, Step, Drop, Collect, AllRecords, Past, after, after_all, state_after}
use Rattle.tables.proofs.Bytes.{all_below, all_bytes}
use Rattle.histories.proofs.Rules.Records.{both_records}

-- 16 locks, one word; a job of one halt
unfoldable pub setup16 : List ℕ
setup16 = 0x4B ∷ 0x00 ∷ 0x02 ∷ 0x00 ∷ 0x10 ∷ 0x01 ∷ replicate 69 0

unfoldable pub halting : List ℕ
halting = 0x08 ∷ 0x00 ∷ 0x01 ∷ 0x00 ∷ 0x00 ∷ 0x01 ∷ 0x00 ∷ 0x00 ∷ []

-- worker 0 wins a lock and is dropped
abbrev won : ℕ → List Call
won l = Begin 0 l halting ∷ Step 0 ∷ Step 0 ∷ Drop 0 ∷ []

-- worker w sees that sheet at lock 0 and stands still; worker 0 helps it to its end, and lock 0 is free again
abbrev seen : ℕ → List Call
seen w = won 0 ++ (Begin w 0 halting ∷ Step w ∷ Begin 0 0 halting ∷ Step 0 ∷ Step 0 ∷ Step 0 ∷ Step 0 ∷ Collect 0 ∷ [])

-- so for 0 .. n - 1, in this order
unfoldable pub each : (ℕ → List Call) → ℕ → List Call
each f zero = []
each f (suc n) = each f n ++ f n

pub halting_bytes : AllBytes halting
unfolding all_below halting
halting_bytes = all_bytes halting refl

pub setup16_bytes : AllBytes setup16
unfolding all_below setup16
setup16_bytes = all_bytes setup16 refl

pub each_records : (f : ℕ → List Call) → ((n : ℕ) → AllRecords (f n)) → (n : ℕ) → AllRecords (each f n)
unfolding each AllRecords
each_records f h zero = tt
each_records f h (suc n) = both_records (each f n) (f n) (each_records f h n) (h n)

-- seven workers have one own sheet and one helped that no lock names, and all 16 locks are held
unfoldable pub full : Past
unfolding AllRecords
full =
    record {
      setup = setup16;
      calls = each (λ w. seen (suc w)) 7 ++ each won 16;
      setup_bytes = setup16_bytes;
      calls_bytes =
          both_records (each (λ w. seen (suc w)) 7) (each won 16)
          (each_records (λ w. seen (suc w)) (λ w. (halting_bytes, (halting_bytes, (halting_bytes, tt)))) 7)
          (each_records won (λ l. (halting_bytes, tt)) 16);
    }

pub record Full : Type 0 where
  pub idle : (worker_at (state_after full) 0).state ≡ Idle
  pub thirty : used_of (in_use (state_after full)) sheets ≡ 30
  pub next : free_sheet (state_after full) ≡ 30
  pub begun : (begin_of (state_after full) 0 0 halting).told ≡ Ok tt

pub thirty_used : Full
unfolding words_from asks_of follows_of word_of lay parts.grab_of parts.release_of parts.swap_of committed_of holds_of is_first worker.counted_of register_of with_register worn_of u32s_of badly_formed code_told instr_told instrs_of told_by strays_at guards_told setup_told turns_told any_of in_use_of lowest_of helped_of spot_of try.answer_of try.commit_step try.effect_of try.follow_step try.grab_step try.look_again_step try.look_step try.mark_step try.read_mark_step try.read_step try.release_step try.swap_step worker.began_of worker.begin_by_state worker.collect_by_state worker.collected_of worker.drop_by_state worker.dropped_of worker.step_by_state begin_of begin_told begun_of collect_of drop_of fresh_of setup_of step_of blank_of places_of put_at view_at after after_all used_of setup16 halting each full
thirty_used = record { idle = refl; thirty = refl; next = refl; begun = refl }
