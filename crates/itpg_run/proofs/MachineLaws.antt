-- The laws of the plain machine, as the session gives them, and what they say of the output of a line.
use Rattle.std.proofs.Common.{◌≡◌, ℕ, List, refl, sym, ap, ◌∙◌, subst}
use Rattle.itpg_session.specs.Machine.{Machine, IsGood}
use Rattle.itpg_session.specs.MachineLaws.{OneReply, SomeReply, GoodReply, GoodOpening}
use Rattle.itpg_run.specs.Out.{Mode, Output, written, LineOut}

pub record Laws : Type 0 where
  pub one : OneReply
  pub some : SomeReply
  pub good : GoodReply
  pub opening : GoodOpening

module _ (laws : Laws) (mode : Mode) (m : Machine) (number : ℕ) (line : List ℕ) (good : IsGood m) where
  pub one_line : (x y : Output) → LineOut mode m number line x → LineOut mode m number line y → x ≡ y
  one_line x y a b = a.is ∙ ap (written mode.form m number) (laws.one mode.limit m mode.form line a.turn b.turn good a.replies b.replies) ∙ sym b.is

  pub some_line : (o : Output) × LineOut mode m number line o
  some_line = let t = laws.some mode.limit m mode.form line good in (written mode.form m number t.0, record { turn = t.0; replies = t.1; is = refl })

  pub good_line : (o : Output) → LineOut mode m number line o → IsGood o.next
  good_line o a = subst (λ (x : Output). IsGood x.next) (sym a.is) (laws.good mode.limit m mode.form line a.turn good a.replies)
