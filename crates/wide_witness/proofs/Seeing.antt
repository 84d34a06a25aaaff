-- Points of different objects from which runs were seen.
use Rattle.std.proofs.Common.{◌≡◌, ◌⊎◌, inl, inr, ⊎_elim, ℕ, ◌+◌, ◌<◌, ◌≤◌, max, List, [], ◌∷◌, refl, sym, ◌∙◌, subst, arith}
use Rattle.itpg_base.specs.Lists.{Among, Ordered}
use Rattle.itpg_base.specs.Points.{Relation}
use Rattle.wide_witness.specs.Steps.{AreOfOthers, AreSeenFrom, IsSeenWide, Seen, runs_seen}
use Rattle.wide_witness.proofs.Walking.{more_seen}

-- so many runs were seen from points of the objects before the one, and so many at most from a point of this
pub record HaveSeen (R : Relation) (steps o before most : ℕ) : Type 0 where
  all : List (Seen R steps)
  apart : Ordered AreOfOthers all
  earlier : (s : Seen R steps) → Among all s → s.from.object < o
  many : before ≤ runs_seen all
  own : AreSeenFrom R steps o most

-- points of objects up to the one, and so many runs from them
record AreSeenTo (R : Relation) (steps o count : ℕ) : Type 0 where
  all : List (Seen R steps)
  apart : Ordered AreOfOthers all
  within : (s : Seen R steps) → Among all s → s.from.object ≤ o
  many : count ≤ runs_seen all

module _ (R : Relation) (steps : ℕ) where
  -- at the start none
  pub none_seen : HaveSeen R steps 0 0 0
  none_seen = record { all = []; apart = tt; earlier = λ s a. absurd a; many = omega arith; own = inl refl }

  -- all together
  together : (o before most count : ℕ) → count ≤ before + most → HaveSeen R steps o before most → AreSeenTo R steps o count
  unfolding runs_seen
  together o before most count le h =
      let many = h.many in
      ⊎_elim
      (λ (e : most ≡ 0). record { all = h.all; apart = h.apart; within = λ s a. let less = h.earlier s a in omega (arith, less); many = omega (arith, many, e, le) })
      (λ own.
      let runs = own.2 in
      let same = own.1 in
      record {
        all = own.0 ∷ h.all;
        apart = (λ s a e. let less = h.earlier s a in omega (arith, less, same, e), h.apart);
        within = λ s a. ⊎_elim (λ (e : own.0 ≡ s). subst (λ (v : Seen R steps). v.from.object ≤ o) e (omega (arith, same))) (λ b. let less = h.earlier s b in omega (arith, less)) a;
        many = omega (arith, many, runs, le);
      })
      h.own

  -- a later object is the next
  pub next_object : (o before most later count : ℕ) → o < later → count ≤ before + most → HaveSeen R steps o before most → HaveSeen R steps later count 0
  next_object o before most later count less le h =
      let t = together o before most count le h in
      record { all = t.all; apart = t.apart; earlier = λ s a. let up = t.within s a in omega (arith, up, less); many = t.many; own = inl refl }

  -- at the object of a row, which is the one or a later one
  pub at_row : (o before most source object sum more : ℕ) → o ≤ source
      → ((o < source) × (sum ≤ before + most) × (more ≡ 0) × (object ≡ source)) ⊎ ((source ≤ o) × (sum ≡ before) × (more ≡ most) × (object ≡ o))
      → HaveSeen R steps o before most → HaveSeen R steps source sum more × (object ≡ source)
  at_row o before most source object sum more up (inl next) h =
      (subst (λ (v : ℕ). HaveSeen R steps source sum v) (sym next.2) (next_object o before most source sum next.0 next.1 h), next.3)
  at_row o before most source object sum more up (inr same) h =
      let low = same.0 in
      let is : o ≡ source = omega (arith, up, low) in (
        subst (λ (v : ℕ). HaveSeen R steps v sum more) is
            (subst (λ (v : ℕ). HaveSeen R steps o v more) (sym same.1) (subst (λ (v : ℕ). HaveSeen R steps o before v) (sym same.2) h)),
        same.3 ∙ is,
      )

  -- another point of the object
  pub other_point : (o before most count more : ℕ) → more ≡ max most count → AreSeenFrom R steps o count → HaveSeen R steps o before most → HaveSeen R steps o before more
  other_point o before most count more e seen h =
      record { all = h.all; apart = h.apart; earlier = h.earlier; many = h.many; own = more_seen R steps o most count more e h.own seen }

  -- they are more than the limit
  pub many_seen : (o before most count limit : ℕ) → count ≤ before + most → limit < count → HaveSeen R steps o before most → IsSeenWide R steps limit
  many_seen o before most count limit le more h =
      let t = together o before most count le h in
      let many = t.many in
      record { all = t.all; apart = t.apart; many = omega (arith, many, more) }
