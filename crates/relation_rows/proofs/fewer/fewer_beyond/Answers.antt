use Rattle.relation_rows.proofs.fewer.fewer_beyond.Goals as goal

pub returns : goal.returns
returns c = λ x y. (
  λ h. (c.in_ok-thin.ensures x y).0 ((c.in_ok-left.ensures x y).0 h),
  λ h. (c.in_ok-left.ensures x y).1 ((c.in_ok-thin.ensures x y).1 h),
)
