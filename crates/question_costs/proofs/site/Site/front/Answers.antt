use Rattle.std.proofs.Common.{◌≡◌, ℕ, List, [], ◌++◌, ◌∙◌, ap, sym, refl, codes}
use Rattle.std.proofs.lemmas.List.{length-map}
use Rattle.question_costs.specs.declared.count.MemberCount.{MemberCount}
use Rattle.question_costs.specs.Texts.{line_text}
use Rattle.question_costs.proofs.site.Site.front.Goals as goal

-- three pieces that are put behind nothing, one after the other
joined : (x a b c t u v : List ℕ) → x ≡ [] → t ≡ x ++ a → u ≡ t ++ b → v ≡ u ++ c → v ≡ (a ++ b) ++ c
joined x a b c t u v empty first second third = third ∙ ap (λ w. w ++ c) (second ∙ ap (λ w. w ++ b) (first ∙ ap (λ w. w ++ a) empty))

pub returns : goal.returns
returns c =
    let counted = c.args.counted in
    record {
      shown = record { limit = c.args.self.now.max_rows; nodes = counted.plans.nodes; members = counted.members.items; kept = c.in_ok-kept.kept.items };
      root = counted.root.0;
      place = c.first_over-place.result;
      limited = refl;
      whole = c.requires.counts.node;
      each = sym (length-map counted.members.items (λ (m : MemberCount). m.count)) ∙ c.requires.counts.each;
      children = c.requires.children;
      told = c.requires.counts.told;
      over = c.first_over-place.ensures.some;
      first = c.first_over-place.ensures.first;
      none = c.first_over-place.ensures.none;
      kept = c.in_ok-kept.ensures.only;
      all_kept = c.in_ok-kept.ensures.each;
      is = joined _ _ _ _ _ _ _ c.new-text.ensures.items
          (c.in_ok-add_line.ensures.added ∙ ap (λ p. c.new-text.result.items ++ line_text (codes "path") p) (c.deref.ensures.value ∙ c.in_ok-path.ensures))
          c.in_ok-add_path.ensures c.in_ok-add_wide.ensures;
    }
