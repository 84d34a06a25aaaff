-- Relations between fewer than 2 ^ 60 points are lawful.
use Rattle.std.proofs.Common.{◌≡◌, ℕ, zero, suc, ◌≤◌, ◌^◌, List, [], ◌∷◌, ◌++◌, length, ◌⊎◌, inl, inr, refl, sym, ap, subst, ◌∙◌, arith}
use Rattle.std.proofs.Math.Nat.{le-suc_iff}
use Rattle.itpg_base.specs.Walks.{IsWalk}
use Rattle.itpg_base.proofs.ShortWalks.{short_walk}
use Rattle.repeat_engine.specs.Powers.{nth_power, union_of_powers}
use Rattle.repeat_engine.specs.Composed.{IsLawful}
use Rattle.repeat_engine.specs.Relations.{RelationTerm, relations, Identity, Composition, Union, Relates, RelatesAlike, IsBetween, AreFew}

swapped : {A B : Type 0} → A ⊎ B → B ⊎ A
swapped (inl a) = inr a
swapped (inr b) = inl b

sides : {A B C D : Type 0} → (A → C) → (B → D) → A ⊎ B → C ⊎ D
sides f g (inl a) = inl (f a)
sides f g (inr b) = inr (g b)

either : {A : Type 0} → A ⊎ A → A
either (inl a) = a
either (inr a) = a

right_of : {A B C : Type 0} → (A ⊎ B) ⊎ C → A ⊎ (B ⊎ C)
right_of (inl (inl a)) = inl a
right_of (inl (inr b)) = inr (inl b)
right_of (inr c) = inr (inr c)

left_of : {A B C : Type 0} → A ⊎ (B ⊎ C) → (A ⊎ B) ⊎ C
left_of (inl a) = inl (inl a)
left_of (inr (inl b)) = inl (inr b)
left_of (inr (inr c)) = inr c

length_more : {P : Type 0} (zs : List P) (z : P) → length (zs ++ z ∷ []) ≡ suc (length zs)
length_more [] z = refl
length_more (v ∷ zs) z = ap suc (length_more zs z)

walk_more : {P : Type 0} (R : P → P → Type 0) (zs : List P) (u v y : P) → IsWalk R u zs v → R v y → IsWalk R u (zs ++ y ∷ []) y
walk_more {P} R [] u v y walk step = (subst (λ (p : P). R p y) (sym walk) step, refl)
walk_more R (z ∷ zs) u v y walk step = (walk.0, walk_more R zs z v y walk.1 step)

module _ {P G : Type 0} (Inside : P → Type 0) (Leads : G → P → P → Type 0) where
  abbrev Rel : RelationTerm G → P → P → Type 0
  Rel a x y = Relates Inside Leads a x y

  abbrev Pow : RelationTerm G → ℕ → RelationTerm G
  Pow a n = nth_power relations a n

  abbrev To : RelationTerm G → ℕ → RelationTerm G
  To a n = union_of_powers relations a n

  -- powers start inside
  power_inside : (a : RelationTerm G) → IsBetween Inside Leads a → (n : ℕ) (x y : P) → Rel (Pow a n) x y → Inside x
  unfolding nth_power
  power_inside a between zero x y h = h.0
  power_inside a between (suc n) x y h = power_inside a between n x h.0 h.1

  -- what a power leads over is a walk of as many steps
  pub power_walk : (a : RelationTerm G) (n : ℕ) (x y : P) → Rel (Pow a n) x y → (points : List P) × (length points ≡ n) × IsWalk (Rel a) x points y
  unfolding nth_power
  power_walk a zero x y h = ([], refl, h.1)
  power_walk a (suc n) x y h =
      let before = power_walk a n x h.0 h.1 in
      (before.0 ++ y ∷ [], length_more before.0 y ∙ ap suc before.1, walk_more (Rel a) before.0 x h.0 y before.2 h.2)

  -- a step before a power
  step_power : (a : RelationTerm G) (n : ℕ) (x z y : P) → Inside x → Rel a x z → Rel (Pow a n) z y → Rel (Pow a (suc n)) x y
  unfolding nth_power
  step_power a zero x z y inside step h = (x, (inside, refl), subst (λ (p : P). Rel a x p) h.1 step)
  step_power a (suc n) x z y inside step h = (h.0, step_power a n x z h.0 inside step h.1, h.2)

  -- and a walk from a point inside is a power of as many steps
  pub walk_power : (a : RelationTerm G) → IsBetween Inside Leads a → (zs : List P) (x y : P) → Inside x → IsWalk (Rel a) x zs y → Rel (Pow a (length zs)) x y
  unfolding nth_power
  walk_power a between [] x y inside walk = (inside, walk)
  walk_power a between (z ∷ zs) x y inside walk =
      step_power a (length zs) x z y inside walk.0 (walk_power a between zs z y (between x z walk.0).1 walk.1)

  pub power_in_union : (a : RelationTerm G) (k n : ℕ) (x y : P) → k ≤ n → Rel (Pow a k) x y → Rel (To a n) x y
  unfolding nth_power union_of_powers
  power_in_union a zero zero x y below h = h
  power_in_union a (suc k) zero x y below h = absurd (omega (arith, below))
  power_in_union a k (suc n) x y below h =
      elim (le-suc_iff.0 below) [
        | inl before ↦ inl (power_in_union a k n x y before h)
        | inr last ↦ inr (subst (λ (m : ℕ). Rel (Pow a m) x y) last h)
      ]

  -- what a union of powers leads over is one of them
  pub union_power : (a : RelationTerm G) (n : ℕ) (x y : P) → Rel (To a n) x y → (k : ℕ) × (k ≤ n) × Rel (Pow a k) x y
  unfolding nth_power union_of_powers
  union_power a zero x y h = (zero, omega arith, h)
  union_power a (suc n) x y (inl before) = let k = union_power a n x y before in (k.0, omega (arith, k.1), k.2)
  union_power a (suc n) x y (inr last) = (suc n, omega arith, last)

  module _ {number : P → ℕ} (few : AreFew Inside number) where
    -- each power leads where the union of the powers 0 to 2 ^ 60 leads
    power_bounded : (a : RelationTerm G) → IsBetween Inside Leads a → (n : ℕ) (x y : P) → Rel (Pow a n) x y → Rel (To a (2 ^ 60)) x y
    power_bounded a between n x y h =
        let inside : Inside x = power_inside a between n x y h in
        let walk = power_walk a n x y h in
        let short = short_walk few (Rel a) (λ u v h. (between u v h).1) x walk.0 y inside walk.2 in
        power_in_union a (length short.0) (2 ^ 60) x y (omega (arith, short.1)) (walk_power a between short.0 x y inside short.2)

    abbrev Alike : RelationTerm G → RelationTerm G → Type 0
    Alike a b = RelatesAlike Inside Leads a b

    alike : (a b : RelationTerm G) → ((x y : P) → Rel a x y → Rel b x y) → ((x y : P) → Rel b x y → Rel a x y) → Alike a b
    alike a b there back = record { there = there; back = back }

    pub relations_lawful : (Fits : RelationTerm G → Type 0) → ((a b : RelationTerm G) → Alike a b → Fits a → Fits b) → IsLawful Alike (IsBetween Inside Leads) Fits relations
    relations_lawful Fits fits_alike = record {
      same = λ a. alike a a (λ x y h. h) (λ x y h. h);
      turned = λ a b e. alike b a e.back e.there;
      joined = λ a b c e f. alike a c (λ x y h. f.there x y (e.there x y h)) (λ x y h. e.back x y (f.back x y h));
      own_alike = λ a b e own x y h. own x y (e.back x y h);
      fits_alike = fits_alike;
      composed_alike = λ a b c d e f. alike (Composition a b) (Composition c d)
          (λ x y h. (h.0, e.there x h.0 h.1, f.there h.0 y h.2)) (λ x y h. (h.0, e.back x h.0 h.1, f.back h.0 y h.2));
      united_alike = λ a b c d e f. alike (Union a b) (Union c d)
          (λ x y. sides (e.there x y) (f.there x y)) (λ x y. sides (e.back x y) (f.back x y));
      own_one = λ x y h. (h.0, subst Inside h.1 h.0);
      own_composed = λ a b own_a own_b x y h. ((own_a x h.0 h.1).0, (own_b h.0 y h.2).1);
      own_united = λ a b own_a own_b x y h. either (sides (own_a x y) (own_b x y) h);
      associative = λ a b c own_a own_b own_c. alike (Composition (Composition a b) c) (Composition a (Composition b c))
          (λ x y h. (h.1.0, h.1.1, (h.0, h.1.2, h.2))) (λ x y h. (h.2.0, (h.0, h.1, h.2.1), h.2.2));
      one_left = λ a own. alike (Composition Identity a) a
          (λ x y h. subst (λ (p : P). Rel a p y) (sym h.1.1) h.2) (λ x y h. (x, ((own x y h).0, refl), h));
      one_right = λ a own. alike (Composition a Identity) a
          (λ x y h. subst (λ (p : P). Rel a x p) h.2.1 h.1) (λ x y h. (y, h, ((own x y h).1, refl)));
      over_left = λ a b c own_a own_b own_c. alike (Composition (Union a b) c) (Union (Composition a c) (Composition b c))
          (λ x y h. sides (λ l. (h.0, l, h.2)) (λ l. (h.0, l, h.2)) h.1)
          (λ x y h. either (sides (λ l. (l.0, inl l.1, l.2)) (λ l. (l.0, inr l.1, l.2)) h));
      over_right = λ a b c own_a own_b own_c. alike (Composition a (Union b c)) (Union (Composition a b) (Composition a c))
          (λ x y h. sides (λ l. (h.0, h.1, l)) (λ l. (h.0, h.1, l)) h.2)
          (λ x y h. either (sides (λ l. (l.0, l.1, inl l.2)) (λ l. (l.0, l.1, inr l.2)) h));
      united_associative = λ a b c own_a own_b own_c. alike (Union (Union a b) c) (Union a (Union b c))
          (λ x y h. right_of h) (λ x y h. left_of h);
      united_commutative = λ a b own_a own_b. alike (Union a b) (Union b a) (λ x y h. swapped h) (λ x y h. swapped h);
      united_twice = λ a own. alike (Union a a) a (λ x y h. either h) (λ x y h. inl h);
      bounded = λ a n own above. alike (Union (To a (2 ^ 60)) (Pow a n)) (To a (2 ^ 60))
          (λ x y h. either (sides (λ l. l) (power_bounded a own n x y) h)) (λ x y h. inl h);
    }
