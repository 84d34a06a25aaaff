-- Rows that stand in two lists, taken out of both.
use Rattle.std.proofs.Common.{◌≡◌, ◌⊎◌, ◌↔◌, inl, inr, ⊎_elim, ℤ, List, [], ◌∷◌, ◌++◌, refl, sym, ap, subst, append_assoc}
use Rattle.band_normal.specs.declared.band.Band.{Band}
use Rattle.band_normal.specs.declared.band.End.{End}
use Rattle.itpg_base.specs.Lists.{Ordered}
use Rattle.band_normal.specs.Bands.{InBand}
use Rattle.band_normal.specs.Strips.{Holds}
use Rattle.band_normal.specs.Rows.{AreApart}
use Rattle.band_normal.specs.Strike.{OnlyFirst}
use Rattle.itpg_base.proofs.Lists.{among_append, append_first, append_second, append_ordered, ordered_first, ordered_second, ordered_across}

pub band_same : (x y : Band) → x.from ≡ y.from → x.to ≡ y.to → ((x.low ≡ y.low) × (x.high ≡ y.high)) → x ≡ y
band_same x y e f g =
    let P : ℤ → Type 0 = λ v. x ≡ record { from = v; to = x.to; low = x.low; high = x.high } in
    let Q : ℤ → Type 0 = λ v. x ≡ record { from = y.from; to = v; low = x.low; high = x.high } in
    let S : End → Type 0 = λ v. x ≡ record { from = y.from; to = y.to; low = v; high = x.high } in
    let T : End → Type 0 = λ v. x ≡ record { from = y.from; to = y.to; low = y.low; high = v } in
    subst T g.1 (subst S g.0 (subst Q f (subst P e refl)))

pub same_band : (x y : Band) → x ≡ y → (x.low ≡ y.low) × (x.high ≡ y.high)
same_band x y e = (ap (λ (v : Band). v.low) e, ap (λ (v : Band). v.high) e)

-- a row more in the middle
middle : (xs ys : List Band) (b : Band) (t u : ℤ) → Holds (xs ++ b ∷ ys) t u ↔ (InBand b t u ⊎ Holds (xs ++ ys) t u)
middle xs ys b t u = (
  λ h. ⊎_elim
      (λ i. inr (h.0, append_first xs ys h.0 i, h.2))
      (λ i. ⊎_elim (λ (e : b ≡ h.0). inl (subst (λ (v : Band). InBand v t u) (sym e) h.2)) (λ k. inr (h.0, append_second xs ys h.0 k, h.2)) i)
      (among_append xs (b ∷ ys) h.0 h.1),
  λ h. ⊎_elim
      (λ i. (b, append_second xs (b ∷ ys) b (inl refl), i))
      (λ k. (k.0, ⊎_elim (λ i. append_first xs (b ∷ ys) k.0 i) (λ i. append_second xs (b ∷ ys) k.0 (inr i)) (among_append xs ys k.0 k.1), k.2)) h,
)

-- a row that stands in both lists, taken out of both: what only the first holds stays, since no other row of the first shares a pair with it
pub strike_both : (xs ys vs ws : List Band) (b : Band) → Ordered AreApart (xs ++ b ∷ ys) → (t u : ℤ) → OnlyFirst (xs ++ b ∷ ys) (vs ++ b ∷ ws) t u ↔ OnlyFirst (xs ++ ys) (vs ++ ws) t u
strike_both xs ys vs ws b apart t u =
    let one = middle xs ys b t u in
    let two = middle vs ws b t u in (
      λ h. (⊎_elim (λ i. absurd (h.1 (two.1 (inl i)))) (λ k. k) (one.0 h.0), λ k. h.1 (two.1 (inr k))),
      λ h. (one.1 (inr h.0), λ k. ⊎_elim (λ i. not_both h.0 i) (λ m. h.1 m) (two.0 k)),
    )
  where
    not_both : Holds (xs ++ ys) t u → InBand b t u → ⊥
    not_both h i = ⊎_elim
        (λ k. ordered_across AreApart xs (b ∷ ys) apart h.0 b k (inl refl) t u h.2 i)
        (λ k. (ordered_second AreApart xs (b ∷ ys) apart).0 h.0 k t u i h.2)
        (among_append xs ys h.0 h.1)

without_middle : (xs ys : List Band) (b : Band) → Ordered AreApart (xs ++ b ∷ ys) → Ordered AreApart (xs ++ ys)
without_middle xs ys b o = append_ordered AreApart xs ys (ordered_first AreApart xs (b ∷ ys) o) (ordered_second AreApart xs (b ∷ ys) o).1 (λ x y i j. ordered_across AreApart xs (b ∷ ys) o x y i (inr j))

-- what was kept and what is left of both lists
pub record AreStriking (first second kept left cuts right : List Band) : Type 0 where
  pub apart : Ordered AreApart (kept ++ left)
  pub same : (t u : ℤ) → OnlyFirst (kept ++ left) (cuts ++ right) t u ↔ OnlyFirst first second t u

pub striking_start : (first second kept cuts : List Band) → kept ≡ [] → cuts ≡ [] → Ordered AreApart first → AreStriking first second kept first cuts second
striking_start first second kept cuts e f o =
    let P : List Band → Type 0 = λ v. AreStriking first second v first cuts second in
    let Q : List Band → Type 0 = λ v. AreStriking first second [] first v second in
    subst P (sym e) (subst Q (sym f) (record { apart = o; same = λ t u. (λ h. h, λ h. h) }))

pub striking_both : (first second kept left cuts right rows others : List Band) (row other : Band) → left ≡ row ∷ rows → right ≡ other ∷ others → row ≡ other → AreStriking first second kept left cuts right → AreStriking first second kept rows cuts others
striking_both first second kept left cuts right rows others row other e f g s =
    let P : List Band → Type 0 = λ v. AreStriking first second kept v cuts right in
    let Q : List Band → Type 0 = λ v. AreStriking first second kept (row ∷ rows) cuts v in
    let S : Band → Type 0 = λ v. AreStriking first second kept (row ∷ rows) cuts (v ∷ others) in
    let h = subst S (sym g) (subst Q f (subst P e s)) in
    record {
      apart = without_middle kept rows row h.apart;
      same = λ t u. let k = strike_both kept rows cuts others row h.apart t u in let m = h.same t u in (λ x. m.0 (k.1 x), λ x. k.0 (m.1 x));
    }

pub striking_left : (first second kept left cuts right rows kept' : List Band) (row : Band) → left ≡ row ∷ rows → kept' ≡ kept ++ row ∷ [] → AreStriking first second kept left cuts right → AreStriking first second kept' rows cuts right
striking_left first second kept left cuts right rows kept' row e f s =
    let all : kept ++ left ≡ kept' ++ rows = subst (λ (v : List Band). kept ++ left ≡ v ++ rows) (sym f) (subst (λ (v : List Band). kept ++ left ≡ v) (sym (append_assoc kept (row ∷ []) rows)) (subst (λ (v : List Band). kept ++ left ≡ kept ++ v) e refl)) in
    record {
      apart = subst (λ (v : List Band). Ordered AreApart v) all s.apart;
      same = λ t u. subst (λ (v : List Band). OnlyFirst v (cuts ++ right) t u ↔ OnlyFirst first second t u) all (s.same t u);
    }

pub striking_right : (first second kept left cuts right others cuts' : List Band) (other : Band) → right ≡ other ∷ others → cuts' ≡ cuts ++ other ∷ [] → AreStriking first second kept left cuts right → AreStriking first second kept left cuts' others
striking_right first second kept left cuts right others cuts' other e f s =
    let all : cuts ++ right ≡ cuts' ++ others = subst (λ (v : List Band). cuts ++ right ≡ v ++ others) (sym f) (subst (λ (v : List Band). cuts ++ right ≡ v) (sym (append_assoc cuts (other ∷ []) others)) (subst (λ (v : List Band). cuts ++ right ≡ cuts ++ v) e refl)) in
    record {
      apart = s.apart;
      same = λ t u. subst (λ (v : List Band). OnlyFirst (kept ++ left) v t u ↔ OnlyFirst first second t u) all (s.same t u);
    }

pub striking_end : (first second kept left cuts right kept' cuts' : List Band) → kept' ≡ kept ++ left → cuts' ≡ cuts ++ right → AreStriking first second kept left cuts right → (t u : ℤ) → OnlyFirst kept' cuts' t u ↔ OnlyFirst first second t u
striking_end first second kept left cuts right kept' cuts' e f s t u =
    let P : List Band → Type 0 = λ v. OnlyFirst v cuts' t u ↔ OnlyFirst first second t u in
    let Q : List Band → Type 0 = λ v. OnlyFirst (kept ++ left) v t u ↔ OnlyFirst first second t u in
    subst P (sym e) (subst Q (sym f) (s.same t u))
