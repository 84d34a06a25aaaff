-- What holds what, over a lawful union.
use Rattle.repeat_engine.specs.Powers.{Algebra}
use Rattle.repeat_engine.specs.Composed.{IsLawful, Includes}

module _ {M : Type 0} {Alike : M → M → Type 0} {Own Fits : M → Type 0} {algebra : Algebra M} (laws : IsLawful Alike Own Fits algebra) where
  open algebra use {one, compose, unite}

  infixl 10 ◌~◌
  ◌~◌ : {x y z : M} → Alike x y → Alike y z → Alike x z
  p ~ q = laws.joined _ _ _ p q

  back : {x y : M} → Alike x y → Alike y x
  back p = laws.turned _ _ p

  pub first_side : {x v : M} (y : M) → Alike x v → Alike (unite x y) (unite v y)
  first_side y p = laws.united_alike _ _ _ _ p (laws.same y)

  pub second_side : {y w : M} (x : M) → Alike y w → Alike (unite x y) (unite x w)
  second_side x p = laws.united_alike _ _ _ _ (laws.same x) p

  abbrev pub Has : M → M → Type 0
  Has a b = Includes Alike algebra a b

  -- each holds the other: they are alike
  pub both_ways : (a b : M) → Own a → Own b → Has a b → Has b a → Alike a b
  both_ways a b own_a own_b p q = back p ~ laws.united_commutative a b own_a own_b ~ q

  pub through : (a b c : M) → Own a → Own b → Own c → Has a b → Has b c → Has a c
  through a b c own_a own_b own_c p q =
      first_side c (back p) ~ laws.united_associative a b c own_a own_b own_c ~ second_side a q ~ p

  pub has_right : (a b : M) → Own a → Own b → Has (unite a b) b
  has_right a b own_a own_b = laws.united_associative a b b own_a own_b own_b ~ second_side a (laws.united_twice b own_b)

  pub has_left : (a b : M) → Own a → Own b → Has (unite a b) a
  has_left a b own_a own_b =
      laws.united_commutative (unite a b) a (laws.own_united a b own_a own_b) own_a
      ~ back (laws.united_associative a a b own_a own_a own_b)
      ~ first_side b (laws.united_twice a own_a)

  pub has_both : (c a b : M) → Own c → Own a → Own b → Has c a → Has c b → Has c (unite a b)
  has_both c a b own_c own_a own_b p q =
      back (laws.united_associative c a b own_c own_a own_b) ~ first_side b p ~ q

  pub has_alike : {a v b w : M} → Alike a v → Alike b w → Has a b → Has v w
  has_alike e f p = laws.united_alike _ _ _ _ (back e) (back f) ~ p ~ e

  pub compose_has_left : (a b z : M) → Own a → Own b → Own z → Has a b → Has (compose a z) (compose b z)
  compose_has_left a b z own_a own_b own_z p =
      back (laws.over_left a b z own_a own_b own_z) ~ laws.composed_alike _ _ _ _ p (laws.same z)

  pub compose_has_right : (z a b : M) → Own z → Own a → Own b → Has a b → Has (compose z a) (compose z b)
  compose_has_right z a b own_z own_a own_b p =
      back (laws.over_right z a b own_z own_a own_b) ~ laws.composed_alike _ _ _ _ (laws.same z) p
