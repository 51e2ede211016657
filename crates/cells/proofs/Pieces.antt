-- What is read where a piece was written, and elsewhere; the array of pieces after one was written.
use Prim.Native.Nat.{ℕ, zero, suc, ◌+◌, ◌*◌, ◌<◌, ◌≤◌}
use mathlib.Core.List.{List, [], ◌∷◌}
use mathlib.Core.Logic.{◌⊎◌, inl, inr, ⊎_elim}
use mathlib.Core.Path.{◌≡◌, refl, ◌∙◌, sym, ap}
use native.Mathlib.Nat.{suc-mul, zero-mul}
use native.Mathlib.Omega.{arith}
use lib.ListN.{get_or, set, length, length-set, replicate}
use lib.Seq.{get_or-set_same, get_or-set_other}
use Rattle.parts.specs.Lay.{lay}
use Rattle.parts.proofs.Lay.{length-lay}
use Rattle.cells.specs.Pieces.{Part, reads, tab, place_of, end_of, pieces_of, put_piece}

-- one number outside of those that were laid
pub lay_out : (xs s : List ℕ) (at m : ℕ) → (m < at) ⊎ (at + length xs ≤ m) → get_or (lay at xs s) m 0 ≡ get_or s m 0
unfolding lay
lay_out [] s at m h = refl
lay_out (x ∷ xs) s at m h =
    lay_out xs (set s at x) (at + 1) m (⊎_elim (λ a. inl (omega arith)) (λ b. inr (omega arith)) h) ∙
    get_or-set_other s at m x 0 (⊎_elim (λ a e. omega arith) (λ b e. omega arith) h)

-- numbers apart from those that were laid
reads_out :
    (k : ℕ) (xs s : List ℕ) (at to j : ℕ) →
    (to + j + k ≤ at) ⊎ (at + length xs ≤ to + j) →
    reads (lay at xs s) to j k ≡ reads s to j k
reads_out zero xs s at to j h = refl
reads_out (suc k) xs s at to j h =
    λ t.
    lay_out xs s at (to + j) (⊎_elim (λ a. inl (omega arith)) (λ b. inr (omega arith)) h) t ∷
    reads_out k xs s at to (j + 1) (⊎_elim (λ a. inl (omega arith)) (λ b. inr (omega arith)) h) t

-- those that were laid
pub reads_in : (xs s : List ℕ) (at to j : ℕ) → at ≡ to + j → at + length xs ≤ length s → reads (lay at xs s) to j (length xs) ≡ xs
unfolding lay
reads_in [] s at to j e h = refl
reads_in (x ∷ xs) s at to j e h =
    λ t.
    (lay_out xs (set s at x) (at + 1) (to + j) (inl (omega arith)) ∙
    ap (λ (m : ℕ). get_or (set s at x) m 0) (sym e) ∙ get_or-set_same s at x 0 (omega arith))
    t ∷
    reads_in xs (set s at x) (at + 1) to (j + 1) (omega arith) (simp length-set (omega arith)) t

reads_zero : (k : ℕ) (s : List ℕ) (at j : ℕ) → ((m : ℕ) → m < at + j + k → get_or s m 0 ≡ 0) → reads s at j k ≡ replicate k 0
reads_zero zero s at j h = refl
reads_zero (suc k) s at j h =
    λ t. h (at + j) (omega arith) t ∷ reads_zero k s at (j + 1) (λ m l. h m (omega arith)) t

-- two pieces are apart, and each is within its array
apart : (k i m : ℕ) → (m ≡ i → ⊥) → (m * k + k ≤ i * k) ⊎ (i * k + k ≤ m * k)
apart k zero zero h = absurd (h refl)
apart k zero (suc m) h = inr (omega (arith, suc-mul m k, zero-mul k))
apart k (suc i) zero h = inl (omega (arith, suc-mul i k, zero-mul k))
apart k (suc i) (suc m) h =
    ⊎_elim (λ a. inl (omega (arith, suc-mul i k, suc-mul m k))) (λ b. inr (omega (arith, suc-mul i k, suc-mul m k)))
    (apart k i m (λ e. h (ap suc e)))

within : (k i n : ℕ) → i < n → i * k + k ≤ n * k
within k i zero h = absurd (omega arith)
within k zero (suc n) h = omega (arith, suc-mul n k, zero-mul k)
within k (suc i) (suc n) h = omega (arith, suc-mul n k, suc-mul i k, within k i n (omega arith))

module _ {A : Type 0} where
  tab_get : (n j : ℕ) (f : ℕ → A) (i : ℕ) (d : A) → i < n → get_or (tab j n f) i d ≡ f (j + i)
  unfolding tab
  tab_get zero j f i d h = absurd (omega arith)
  tab_get (suc n) j f zero d h = ap f (omega arith)
  tab_get (suc n) j f (suc i) d h = tab_get n (suc j) f i d (omega arith) ∙ ap f (omega arith)

  tab-length : (n j : ℕ) (f : ℕ → A) → length (tab j n f) ≡ n
  unfolding tab
  tab-length zero j f = refl
  tab-length (suc n) j f = ap suc (tab-length n (suc j) f)

  tab_ext : (n j : ℕ) (f g : ℕ → A) → ((m : ℕ) → j ≤ m → m < j + n → f m ≡ g m) → tab j n f ≡ tab j n g
  unfolding tab
  tab_ext zero j f g h = refl
  tab_ext (suc n) j f g h =
      λ t. h j (omega arith) (omega arith) t ∷ tab_ext n (suc j) f g (λ m l u. h m (omega arith) (omega arith)) t

  tab_same : (n j : ℕ) (f : ℕ → A) (x : A) → ((m : ℕ) → m < j + n → f m ≡ x) → tab j n f ≡ replicate n x
  unfolding tab
  tab_same zero j f x h = refl
  tab_same (suc n) j f x h = λ t. h j (omega arith) t ∷ tab_same n (suc j) f x (λ m u. h m (omega arith)) t

  tab-set :
      (n j i : ℕ) (f g : ℕ → A) (x : A) →
      i < n →
      f (j + i) ≡ x →
      ((m : ℕ) → m < j + n → (m ≡ j + i → ⊥) → f m ≡ g m) →
      tab j n f ≡ set (tab j n g) i x
  unfolding tab
  tab-set zero j i f g x b e h = absurd (omega arith)
  tab-set (suc n) j zero f g x b e h =
      let q : j ≡ j + 0 = omega arith in
      λ t. (ap f q ∙ e) t ∷ tab_ext n (suc j) f g (λ m l u. h m (omega arith) (λ z. omega arith)) t
  tab-set (suc n) j (suc i) f g x b e h =
      let q : suc j + i ≡ j + suc i = omega arith in
      λ t.
      h j (omega arith) (λ z. omega arith) t ∷
      tab-set n (suc j) i f g x (omega arith) (ap f q ∙ e) (λ m l u. h m (omega arith) (λ z. u (omega arith))) t

  -- a part whose pieces have room, and are written by as many numbers as they use
  pub record Sound (p : Part A) : Type 0 where
    pub room : p.used ≤ p.width
    pub long : (x : A) → length (p.writing x) ≡ p.used

  pub length-put : (p : Part A) (s : List ℕ) (i : ℕ) (x : A) → length (put_piece p s i x) ≡ length s
  unfolding put_piece
  length-put p s i x = length-lay (place_of p i) (p.writing x) s

  pub pieces_length : (p : Part A) (s : List ℕ) → length (pieces_of p s) ≡ p.count
  unfolding pieces_of
  pieces_length p s = tab-length p.count 0 _

  pub pieces_get :
      (p : Part A) (s : List ℕ) (i : ℕ) (d : A) →
      i < p.count →
      get_or (pieces_of p s) i d ≡ p.reading (reads s (place_of p i) 0 p.used)
  unfolding pieces_of
  pieces_get p s i d h =
      tab_get p.count 0 _ i d h ∙ ap (λ (m : ℕ). p.reading (reads s (place_of p m) 0 p.used)) (omega arith)

  pub pieces_set :
      (p : Part A) (s : List ℕ) (i : ℕ) (x : A) →
      Sound p →
      i < p.count →
      end_of p ≤ length s →
      p.reading (p.writing x) ≡ x →
      pieces_of p (put_piece p s i x) ≡ set (pieces_of p s) i x
  unfolding pieces_of put_piece
  pieces_set p s i x o h b e =
      let q : 0 + i ≡ i = omega arith in
      let u : i * p.width + p.width ≤ p.count * p.width = within p.width i p.count h in
      let to = lay (place_of p i) (p.writing x) s in
      tab-set p.count 0 i _ _ x h
      (ap (λ (m : ℕ). p.reading (reads to (place_of p m) 0 p.used)) q ∙
      ap (λ (m : ℕ). p.reading (reads to (place_of p i) 0 m)) (sym (o.long x)) ∙
      ap p.reading (reads_in (p.writing x) s (place_of p i) (place_of p i) 0 (omega arith) (omega (arith, o.long x, o.room))) ∙
      e)
      (λ m l z.
      ap p.reading (reads_out p.used (p.writing x) s (place_of p i) (place_of p m) 0
      (⊎_elim (λ a. inl (omega (arith, o.room))) (λ a. inr (omega (arith, o.long x, o.room)))
      (apart p.width i m (λ w. z (w ∙ sym q))))))

  -- numbers laid outside of the array
  pub pieces_lay :
      (p : Part A) (s xs : List ℕ) (at : ℕ) →
      Sound p →
      (at + length xs ≤ p.base) ⊎ (end_of p ≤ at) →
      pieces_of p (lay at xs s) ≡ pieces_of p s
  unfolding pieces_of
  pieces_lay p s xs at o h =
      tab_ext p.count 0 _ _
      (λ m l u.
      let w : m * p.width + p.width ≤ p.count * p.width = within p.width m p.count (omega arith) in
      ap p.reading (reads_out p.used xs s at (place_of p m) 0
      (⊎_elim (λ a. inr (omega (arith, o.room))) (λ a. inl (omega (arith, o.room))) h)))

  pub pieces_zero :
      (p : Part A) (s : List ℕ) →
      Sound p →
      ((m : ℕ) → m < end_of p → get_or s m 0 ≡ 0) →
      pieces_of p s ≡ replicate p.count (p.reading (replicate p.used 0))
  unfolding pieces_of
  pieces_zero p s o h =
      tab_same p.count 0 _ _
      (λ m u.
      let w : m * p.width + p.width ≤ p.count * p.width = within p.width m p.count (omega arith) in
      ap p.reading (reads_zero p.used s (place_of p m) 0 (λ n l. h n (omega (arith, o.room)))))

-- a number before the array, and the pieces of another array, after a piece was written
pub head_out : {A : Type 0} (p : Part A) (s : List ℕ) (i : ℕ) (x : A) (m : ℕ) → m < p.base → get_or (put_piece p s i x) m 0 ≡ get_or s m 0
unfolding put_piece
head_out p s i x m h = lay_out (p.writing x) s (place_of p i) m (inl (omega arith))

pub pieces_out :
    {A B : Type 0} (p : Part A) (q : Part B) (s : List ℕ) (i : ℕ) (x : A) →
    Sound p →
    Sound q →
    i < p.count →
    (end_of p ≤ q.base) ⊎ (end_of q ≤ p.base) →
    pieces_of q (put_piece p s i x) ≡ pieces_of q s
unfolding put_piece
pieces_out p q s i x o r h e =
    let u : i * p.width + p.width ≤ p.count * p.width = within p.width i p.count h in
    pieces_lay q s (p.writing x) (place_of p i) r
    (⊎_elim (λ a. inl (omega (arith, o.long x, o.room))) (λ a. inr (omega arith)) e)
