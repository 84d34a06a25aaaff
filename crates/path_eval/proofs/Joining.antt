-- Sequences and choices between two scopes, from their parts.
use Rattle.std.proofs.Common.{◌⊎◌, inl, inr, List}
use Rattle.itpg_base.specs.Graphs.{Graph, Good}
use Rattle.itpg_base.specs.Points.{Point}
use Rattle.relation_rows.specs.declared.rows.Row.{Row}
use Rattle.relation_rows.specs.Rows.{NormalRows}
use Rattle.relation_rows.specs.Relations.{HasMiddlePoint, EitherHolds}
use Rattle.relation_rows.proofs.Alike.{rows_hold, hold_only}
use Rattle.path_ast.specs.Terms.{PathTerm, Sequence, Choice}
use Rattle.path_ast.specs.Meaning.{Rel}
use Rattle.label_scope.specs.declared.scope.Scope.{Scope}
use Rattle.label_scope.specs.Narrowing.{Cut}
use Rattle.label_scope.specs.Members.{middle}
use Rattle.label_scope.proofs.MiddlePoint.{in_middle}

module _ (g : Graph) (good : Good g) (p q : PathTerm) (a b : Scope) where
  module _ (left right : List Row) where
    pub sequence_from : NormalRows (Cut g p a (middle p q (record { sources = a; targets = b }))) left → NormalRows (Cut g q (middle p q (record { sources = a; targets = b })) b) right
        → (x y : Point) → HasMiddlePoint left right x y → Cut g (Sequence p q) a b x y
    sequence_from l r x y h =
        let first = hold_only (Cut g p a (middle p q (record { sources = a; targets = b }))) left l x h.0 h.1 in
        let second = hold_only (Cut g q (middle p q (record { sources = a; targets = b })) b) right r h.0 y h.2 in
        record { leads = (h.0, first.leads, second.leads); source = first.source; target = second.target }

    pub from_sequence : NormalRows (Cut g p a (middle p q (record { sources = a; targets = b }))) left → NormalRows (Cut g q (middle p q (record { sources = a; targets = b })) b) right
        → (x y : Point) → Cut g (Sequence p q) a b x y → HasMiddlePoint left right x y
    from_sequence l r x y c =
        let s = c.leads in
        let between = in_middle g good p q (record { sources = a; targets = b }) x s.0 y c.source c.target s.1 s.2 in (
          s.0,
          rows_hold (Cut g p a (middle p q (record { sources = a; targets = b }))) left l x s.0 (record { leads = s.1; source = c.source; target = between }),
          rows_hold (Cut g q (middle p q (record { sources = a; targets = b })) b) right r s.0 y (record { leads = s.2; source = between; target = c.target }),
        )

    pub choice_from : NormalRows (Cut g p a b) left → NormalRows (Cut g q a b) right → (x y : Point) → EitherHolds left right x y → Cut g (Choice p q) a b x y
    choice_from l r x y (inl h) = let c = hold_only (Cut g p a b) left l x y h in record { leads = inl c.leads; source = c.source; target = c.target }
    choice_from l r x y (inr h) = let c = hold_only (Cut g q a b) right r x y h in record { leads = inr c.leads; source = c.source; target = c.target }

    pub from_choice : NormalRows (Cut g p a b) left → NormalRows (Cut g q a b) right → (x y : Point) → Cut g (Choice p q) a b x y → EitherHolds left right x y
    from_choice l r x y c = of (λ lead. record { leads = lead; source = c.source; target = c.target }) (λ lead. record { leads = lead; source = c.source; target = c.target }) c.leads
      where
        of : (Rel p g x y → Cut g p a b x y) → (Rel q g x y → Cut g q a b x y) → Rel p g x y ⊎ Rel q g x y → EitherHolds left right x y
        of first second (inl h) = inl (rows_hold (Cut g p a b) left l x y (first h))
        of first second (inr h) = inr (rows_hold (Cut g q a b) right r x y (second h))
