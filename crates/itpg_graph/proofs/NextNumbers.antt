-- The next number of a rising list.
use Rattle.std.proofs.Common.{◌≡◌, ℕ, ◌<◌, ◌≤◌, List, length, get_or, Bool, true, false, Option, Some, None, Bor, inl, inr, sym, subst, arith, true≢false}
use Rattle.std.specs.Prelude.{nat_lt, is_some, IfSome, IsNone}
use Rattle.std.specs.Option.{option_copied}
use Rattle.std.specs.List.Sorted.{IsPartitionedBy, IsPartitionPoint}
use Rattle.std.proofs.lemmas.Bool.Decides.{Decides-ltb, leb_tells}
use Rattle.itpg_base.specs.declared.object_number.ObjNo.{ObjNo}
use Rattle.itpg_graph.specs.Edges.{HasNumber, AreRising}
use Rattle.itpg_graph.specs.GraphParts.{IsNextNumber, NoNumber}
use Rattle.itpg_graph.proofs.Rising.{number_at, number_rises, number_there}

-- the number is below this one
abbrev pub is_below : ℕ → ObjNo → Bool
is_below from o = nat_lt o.0 from

below_is : (from : ℕ) (o : ObjNo) → is_below from o ≡ true → o.0 < from
below_is from o e = grind (arith, Decides-ltb)

is_below_it : (from : ℕ) (o : ObjNo) → o.0 < from → is_below from o ≡ true
is_below_it from o lt = grind (arith, Decides-ltb)

not_below : (from : ℕ) (o : ObjNo) → is_below from o ≡ false → from ≤ o.0
not_below from o e = grind (arith, Decides-ltb)

module _ (xs : List ObjNo) (from : ℕ) (rising : AreRising xs) where
  pub below_partitioned : IsPartitionedBy (is_below from) xs
  below_partitioned i j d le lt e =
      let least = number_rises xs i j d rising le lt in
      let less = below_is from (get_or xs j d) e in
      is_below_it from (get_or xs i d) (omega arith)

  module _ (n : ℕ) (point : IsPartitionPoint (λ (o : ObjNo). is_below from o ≡ true) (λ (o : ObjNo). is_below from o ≡ false) xs n) where
    -- a number from there on stands at the place or behind it
    at_or_behind : (i : ℕ) → i < length xs → from ≤ (get_or xs i (record { 0 = 0 })).0 → n ≤ i
    at_or_behind i lt least = elim (leb_tells n i) [
      | inl le ↦ le.1
      | inr more ↦ absurd (let less = below_is from _ (point.0 i (record { 0 = 0 }) (omega arith) (let far = more.1 in omega arith)) in omega (arith, less, least))
    ]

    next_found : (o : ObjNo) → n < length xs → o ≡ get_or xs n o → IsNextNumber xs from o.0
    next_found o within at = record {
      has = subst (λ (x : ObjNo). HasNumber xs x.0) (sym at) (number_there xs n o within);
      behind = subst (λ (x : ObjNo). from ≤ x.0) (sym at) (not_below from _ (point.1 n o (omega arith) within));
      first = λ k has least.
          let there = number_at xs k has in
          let place = at_or_behind there.0 there.1 (subst (λ m. from ≤ m) (sym (there.2 (record { 0 = 0 }))) least) in
          let rises = number_rises xs n there.0 o rising place there.1 in
          let same = there.2 o in
          subst (λ (x : ObjNo). x.0 ≤ k) (sym at) (omega (arith, rises, same));
    }

    none_found : length xs ≤ n → NoNumber xs from
    none_found end k has =
        let there = number_at xs k has in
        let same = there.2 (record { 0 = 0 }) in
        let lt = there.1 in
        elim (leb_tells from k) [
          | inr more ↦ (let far = more.1 in omega arith)
          | inl le ↦ absurd (let place = at_or_behind there.0 lt (subst (λ m. from ≤ m) (sym same) le.1) in omega (arith, end, place, lt))
        ]

    -- the item at the place, where there is one
    pub next_told : (item : Option (Bor ObjNo)) → is_some item ≡ nat_lt n (length xs) → IfSome item (λ x. x.now ≡ get_or xs n x.now) → IfSome (option_copied item) (λ o. IsNextNumber xs from o.0)
    next_told None there at = tt
    next_told (Some item) there at = next_found item.now (within there) at
      where
        within : true ≡ nat_lt n (length xs) → n < length xs
        within e = grind (arith, Decides-ltb)

    pub none_told : (item : Option (Bor ObjNo)) → is_some item ≡ nat_lt n (length xs) → IsNone (option_copied item) → NoNumber xs from
    none_told None there none = none_found (past there)
      where
        past : false ≡ nat_lt n (length xs) → length xs ≤ n
        past e = grind (arith, Decides-ltb)
    none_told (Some item) there none = absurd (true≢false none)
