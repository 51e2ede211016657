-- The C interface tells a refusal's place, how many bytes were written and how many instructions were executed in 32 bits: nothing is
-- cut, whatever the state and the arguments.
mod Names
use Names.*
use Rattle.parts.specs.Told.{refusal_place}
use Rattle.engine.specs.Calls.{setup_of, begin_of, step_of, collect_of, drop_of, read_word_of, read_lock_of, show_of, park_of}
use Rattle.calls.specs.Record.{recorded_of}
use Rattle.plain.specs.Plain.{plain_of}

pub record Fits : Type 0 where
  -- the calls that tell a place of a record, or a lock
  pub begin :
      (e : Engine) (w l : ℕ) (rec : List ℕ) (r : Refusal) → (begin_of e w l rec).told ≡ Err r → refusal_place r < 2 ^ 32
  pub setup : (rec : List ℕ) (r : Refusal) → (setup_of rec).told ≡ Err r → refusal_place r < 2 ^ 32
  pub park : (e : Engine) (room : ℕ) (r : Refusal) → park_of e room ≡ Err r → refusal_place r < 2 ^ 32
  pub plain :
      (values guards : List ℕ) (l : ℕ) (rec : List ℕ) (r : Refusal) → plain_of values guards l rec ≡ Err r →
      refusal_place r < 2 ^ 32
  -- the calls that tell no place
  pub step : (e : Engine) (w : ℕ) (r : Refusal) → (step_of e w).told ≡ Err r → refusal_place r ≡ 0
  pub collect : (e : Engine) (w : ℕ) (r : Refusal) → (collect_of e w).told ≡ Err r → refusal_place r ≡ 0
  pub drop : (e : Engine) (w : ℕ) (r : Refusal) → (drop_of e w).told ≡ Err r → refusal_place r ≡ 0
  pub read_word : (e : Engine) (i : ℕ) (r : Refusal) → read_word_of e i ≡ Err r → refusal_place r ≡ 0
  pub read_lock : (e : Engine) (l : ℕ) (r : Refusal) → read_lock_of e l ≡ Err r → refusal_place r ≡ 0
  pub show : (e : Engine) (s room : ℕ) (r : Refusal) → show_of e s room ≡ Err r → refusal_place r ≡ 0
  pub no_record :
      (call w l : ℕ) (rec : List ℕ) (room : ℕ) (r : Refusal) → recorded_of call w l rec room ≡ Err r →
      refusal_place r ≡ 0
  -- how many bytes the writers wrote
  pub shown : (e : Engine) (s room n : ℕ) → show_of e s room ≡ Ok n → n < 2 ^ 32
  pub parked : (e : Engine) (room n : ℕ) → park_of e room ≡ Ok n → n < 2 ^ 32
  pub recorded : (call w l : ℕ) (rec : List ℕ) (room n : ℕ) → recorded_of call w l rec room ≡ Ok n → n < 2 ^ 32
  -- how many instructions the plain engine executed
  pub executed :
      (values guards : List ℕ) (l : ℕ) (rec : List ℕ) (said : Bool) (n : ℕ) → plain_of values guards l rec ≡ Ok (ran said n) →
      n < 2 ^ 32
