-- Before anything is asked or watched no edit has anything to forget.
use Rattle.std.proofs.Common.{◌≡◌, List, [], ◌∷◌, length, arith}
use Rattle.itpg_base.specs.Graphs.{Graph}
use Rattle.itpg_base.specs.declared.touch.Touch.{Touch}
use Rattle.itpg_edit.specs.declared.edit.Edit.{Edit}
use Rattle.itpg_edit.specs.Rules.{Unbroken}
use Rattle.itpg_edit.specs.Next.{Next, Makes}
use Rattle.plan_cache.specs.Nodes.{PlanNode, Kept}
use Rattle.plan_cache.specs.Footprints.{footprints_of}
use Rattle.plan_cache.specs.KeptRows.{Forgets}
use Rattle.standing_queries.specs.Watches.{Watch}
use Rattle.standing_queries.specs.Touched.{AreTouched}
use Rattle.itpg_session.proofs.OneTouch.{some_touch}

-- an edit that is made touches something
pub made : (g new : Graph) (edit : Edit) → Unbroken g edit → Next g edit new → (touch : Touch) × Makes g edit new touch
made g new edit unbroken next =
    let some = some_touch g new edit next in
    (some.0, record { unbroken = unbroken; next = next; touches = some.1 })

pub none_forgotten : (touch : Touch) (nodes : List PlanNode) (kept : List Kept) → length nodes ≡ 0 → length kept ≡ 0 → Forgets touch (footprints_of nodes) kept kept
none_forgotten touch [] [] a b = tt
none_forgotten touch [] (k ∷ kept) a b = absurd (omega arith)
none_forgotten touch (n ∷ nodes) kept a b = absurd (omega arith)

pub none_touched : (touch : Touch) (ws : List Watch) → length ws ≡ 0 → AreTouched touch ws ws
none_touched touch [] a = tt
none_touched touch (w ∷ ws) a = absurd (omega arith)
