-- Rows in two parts, and the ways by them.
use Rattle.std.proofs.Common.{◌≡◌, ◌↔◌, ◌⊎◌, inl, inr, ⊎_elim, List, [], ◌++◌, refl, sym, ◌∙◌, ap, subst, append_assoc, append-nil}
use Rattle.itpg_base.specs.Points.{Point}
use Rattle.itpg_base.specs.Lists.{Among, Ordered}
use Rattle.itpg_base.proofs.Lists.{among_append, append_first, append_second, append_ordered, ordered_first, ordered_second, ordered_across}
use Rattle.relation_rows.specs.declared.rows.Row.{Row}
use Rattle.relation_rows.specs.Rows.{RowBefore, NormalRows}
use Rattle.relation_rows.specs.Relations.{EitherHolds, HasMiddlePoint}
use Rattle.relation_rows.specs.EvenParts.{AreParts}
use Rattle.relation_rows.proofs.Alike.{rows_alike, rows_hold, hold_only}

-- the parts of the rows that were read
pub record HaveParts (rows left even rest : List Row) : Type 0 where
  pub read : List Row
  pub parts : rows ≡ read ++ left
  pub own : AreParts read even rest

pub none_read : (rows even rest : List Row) → even ≡ [] → rest ≡ [] → HaveParts rows rows even rest
none_read rows even rest e f = record {
  read = [];
  parts = refl;
  own = rw (e, f) (record { there = λ r. (λ a. absurd a, λ a. ⊎_elim (λ b. b) (λ b. b) a); even_order = tt; rest_order = tt });
}

-- a run more is read
module _ (rows left even rest : List Row) (order : Ordered RowBefore rows) (h : HaveParts rows left even rest) (run later : List Row) (split : left ≡ run ++ later) where
  more_parts : rows ≡ (h.read ++ run) ++ later
  more_parts = h.parts ∙ ap (λ (v : List Row). h.read ++ v) split ∙ sym (append_assoc h.read run later)

  read_order : Ordered RowBefore (h.read ++ run)
  read_order = ordered_first RowBefore (h.read ++ run) later (subst (λ (v : List Row). Ordered RowBefore v) more_parts order)

  -- rows of the part of what was read, and then the run
  behind_part : (part new : List Row) → ((r : Row) → Among part r → Among h.read r) → Ordered RowBefore part → new ≡ part ++ run → Ordered RowBefore new
  behind_part part new there o e = subst (λ (v : List Row). Ordered RowBefore v) (sym e)
      (append_ordered RowBefore part run o (ordered_second RowBefore h.read run read_order) (λ r s a b. ordered_across RowBefore h.read run read_order r s (there r a) b))

  pub read_even : (new : List Row) → new ≡ even ++ run → HaveParts rows later new rest
  read_even new e = record {
    read = h.read ++ run;
    parts = more_parts;
    own = record {
      there = λ r. subst (λ (v : List Row). Among (h.read ++ run) r ↔ (Among v r ⊎ Among rest r)) (sym e) (
        λ a. ⊎_elim
            (λ b. ⊎_elim (λ k. inl (append_first even run r k)) (λ k. inr k) ((h.own.there r).0 b))
            (λ b. inl (append_second even run r b))
            (among_append h.read run r a),
        λ a. ⊎_elim
            (λ b. ⊎_elim (λ k. append_first h.read run r ((h.own.there r).1 (inl k))) (λ k. append_second h.read run r k) (among_append even run r b))
            (λ b. append_first h.read run r ((h.own.there r).1 (inr b)))
            a,
      );
      even_order = behind_part even new (λ r a. (h.own.there r).1 (inl a)) h.own.even_order e;
      rest_order = h.own.rest_order;
    };
  }

  pub read_rest : (new : List Row) → new ≡ rest ++ run → HaveParts rows later even new
  read_rest new e = record {
    read = h.read ++ run;
    parts = more_parts;
    own = record {
      there = λ r. subst (λ (v : List Row). Among (h.read ++ run) r ↔ (Among even r ⊎ Among v r)) (sym e) (
        λ a. ⊎_elim
            (λ b. ⊎_elim (λ k. inl k) (λ k. inr (append_first rest run r k)) ((h.own.there r).0 b))
            (λ b. inr (append_second rest run r b))
            (among_append h.read run r a),
        λ a. ⊎_elim
            (λ b. append_first h.read run r ((h.own.there r).1 (inl b)))
            (λ b. ⊎_elim (λ k. append_first h.read run r ((h.own.there r).1 (inr k))) (λ k. append_second h.read run r k) (among_append rest run r b))
            a,
      );
      even_order = h.own.even_order;
      rest_order = behind_part rest new (λ r a. (h.own.there r).1 (inr a)) h.own.rest_order e;
    };
  }

pub all_read : (rows left even rest : List Row) → left ≡ [] → HaveParts rows left even rest → AreParts rows even rest
all_read rows left even rest e h = subst (λ (v : List Row). AreParts v even rest) (sym (h.parts ∙ ap (λ (v : List Row). h.read ++ v) e ∙ append-nil h.read)) h.own

-- without an even row all are the rest
pub no_even : (rows even : List Row) → even ≡ [] → Ordered RowBefore rows → AreParts rows even rows
no_even rows even e order = rw e (record { there = λ r. (λ a. inr a, λ a. ⊎_elim (λ b. absurd b) (λ b. b) a); even_order = tt; rest_order = order })

-- the ways that begin with a part and those that begin with the other are all ways
pub by_first_parts : (rows even rest others one other all : List Row) → AreParts rows even rest → NormalRows (HasMiddlePoint even others) one → NormalRows (HasMiddlePoint rest others) other
    → NormalRows (EitherHolds one other) all → NormalRows (HasMiddlePoint rows others) all
by_first_parts rows even rest others one other all parts n m both = rows_alike (EitherHolds one other) (HasMiddlePoint rows others) to from all both
  where
    to : (x y : Point) → EitherHolds one other x y → HasMiddlePoint rows others x y
    to x y (inl h) = let w = hold_only (HasMiddlePoint even others) one n x y h in (w.0, (w.1.0, (parts.there w.1.0).1 (inl w.1.1), w.1.2), w.2)
    to x y (inr h) = let w = hold_only (HasMiddlePoint rest others) other m x y h in (w.0, (w.1.0, (parts.there w.1.0).1 (inr w.1.1), w.1.2), w.2)

    from : (x y : Point) → HasMiddlePoint rows others x y → EitherHolds one other x y
    from x y w = elim ((parts.there w.1.0).0 w.1.1) [
      | inl a ↦ inl (rows_hold (HasMiddlePoint even others) one n x y (w.0, (w.1.0, a, w.1.2), w.2))
      | inr a ↦ inr (rows_hold (HasMiddlePoint rest others) other m x y (w.0, (w.1.0, a, w.1.2), w.2))
    ]

-- the ways that go on by a part and those that go on by the other are all ways
pub by_later_parts : (rows others even rest one other all : List Row) → AreParts others even rest → NormalRows (HasMiddlePoint rows even) one → NormalRows (HasMiddlePoint rows rest) other
    → NormalRows (EitherHolds one other) all → NormalRows (HasMiddlePoint rows others) all
by_later_parts rows others even rest one other all parts n m both = rows_alike (EitherHolds one other) (HasMiddlePoint rows others) to from all both
  where
    to : (x y : Point) → EitherHolds one other x y → HasMiddlePoint rows others x y
    to x y (inl h) = let w = hold_only (HasMiddlePoint rows even) one n x y h in (w.0, w.1, (w.2.0, (parts.there w.2.0).1 (inl w.2.1), w.2.2))
    to x y (inr h) = let w = hold_only (HasMiddlePoint rows rest) other m x y h in (w.0, w.1, (w.2.0, (parts.there w.2.0).1 (inr w.2.1), w.2.2))

    from : (x y : Point) → HasMiddlePoint rows others x y → EitherHolds one other x y
    from x y w = elim ((parts.there w.2.0).0 w.2.1) [
      | inl a ↦ inl (rows_hold (HasMiddlePoint rows even) one n x y (w.0, w.1, (w.2.0, a, w.2.2)))
      | inr a ↦ inr (rows_hold (HasMiddlePoint rows rest) other m x y (w.0, w.1, (w.2.0, a, w.2.2)))
    ]

-- where one part has no row, the ways by the other are all
pub by_first_alone : (rows even rest others all : List Row) → AreParts rows even rest → rest ≡ [] → NormalRows (HasMiddlePoint even others) all → NormalRows (HasMiddlePoint rows others) all
by_first_alone rows even rest others all parts e = rows_alike (HasMiddlePoint even others) (HasMiddlePoint rows others)
    (λ x y w. (w.0, (w.1.0, (parts.there w.1.0).1 (inl w.1.1), w.1.2), w.2))
    (λ x y w. (w.0, (w.1.0, ⊎_elim (λ a. a) (λ a. absurd (subst (λ (v : List Row). Among v w.1.0) e a)) ((parts.there w.1.0).0 w.1.1), w.1.2), w.2)) all

pub by_rest_alone : (rows even rest others all : List Row) → AreParts rows even rest → even ≡ [] → NormalRows (HasMiddlePoint rest others) all → NormalRows (HasMiddlePoint rows others) all
by_rest_alone rows even rest others all parts e = by_first_alone rows rest even others all
    (record { there = λ r. (λ a. ⊎_elim (λ b. inr b) (λ b. inl b) ((parts.there r).0 a), λ a. (parts.there r).1 (⊎_elim (λ b. inr b) (λ b. inl b) a)); even_order = parts.rest_order; rest_order = parts.even_order }) e

pub by_later_alone : (rows others even rest all : List Row) → AreParts others even rest → rest ≡ [] → NormalRows (HasMiddlePoint rows even) all → NormalRows (HasMiddlePoint rows others) all
by_later_alone rows others even rest all parts e = rows_alike (HasMiddlePoint rows even) (HasMiddlePoint rows others)
    (λ x y w. (w.0, w.1, (w.2.0, (parts.there w.2.0).1 (inl w.2.1), w.2.2)))
    (λ x y w. (w.0, w.1, (w.2.0, ⊎_elim (λ a. a) (λ a. absurd (subst (λ (v : List Row). Among v w.2.0) e a)) ((parts.there w.2.0).0 w.2.1), w.2.2))) all
