-- One read more: what it gave stands behind what stood there.
use Rattle.std.proofs.Common.{◌≡◌, ℕ, ◌+◌, ◌≤◌, List, ◌++◌, length, take, sym, ap, ◌∙◌, subst, rules, length-take-le}
use Rattle.std.proofs.KnownBytes.{Consumes-trans}
use Rattle.std.proofs.lemmas.List.{take-append-le}
use Rattle.std.proofs.Math.Seq.{take-append-add}
use Rattle.std.specs.Io.KnownBytes.{Consumes}
use borrow.Rule.Slice.PartMut.{put_mid, post_of}
use Rattle.standard_input.proofs.read_full.Goals as goal

front_grows :
    (d k n : ℕ) (xs ys : List ℕ) → d ≤ length xs → n ≤ length ys → take (d + n) (put_mid d k xs ys) ≡ take d xs ++ take n ys
front_grows d k n xs ys h m =
    ap (λ i. take (i + n) (put_mid d k xs ys)) (sym (length-take-le d xs h)) ∙
    take-append-add (take d xs) (ys ++ post_of d k xs) n ∙
    ap (λ zs. take d xs ++ zs) (take-append-le n ys (post_of d k xs) m)

pub loop-done-preserved : goal.loop-done-preserved
loop-done-preserved g c = record {
  within = search rules;
  bytes =
      subst (λ (zs : List ℕ). Consumes (g.R.Read.remaining c.args.from.now) (g.R.Read.remaining c.read.new.self) zs)
      (sym (front_grows _ _ _ _ _ c.loop-done.invariant.within c.in_ok-n.ensures.bound.0))
      (Consumes-trans _ _ _ _ _ c.loop-done.invariant.bytes c.in_ok-n.ensures.bytes.0);
}
