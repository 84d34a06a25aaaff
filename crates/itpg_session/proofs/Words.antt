-- Names stay words.
use Rattle.std.proofs.Common.{◌≡◌, ℕ, zero, suc, inl, inr, List, [], ◌∷◌, refl, sym, subst}
use Rattle.std.specs.Prelude.{IsTrue}
use Rattle.itpg_base.specs.Words.{Word}
use Rattle.itpg_base.specs.Graphs.{Graph, Object, changed_at}
use Rattle.itpg_base.specs.Lists.{Among}
use Rattle.itpg_graph.specs.Changes.{new_node, new_edge}
use Rattle.itpg_edit.specs.declared.edit.Edit.{Edit}
use Rattle.itpg_edit.specs.declared.edit.Edit.TheVariants.{Begin, Extend, AddNode, AddEdge, Live, Gone, Put, Clear, Remove}
use Rattle.itpg_edit.specs.Next.{Next}
use Rattle.edit_reader.specs.Names.{is_word, HasNewWord}
use Rattle.itpg_session.specs.Machine.{HasWords}
use Rattle.itpg_session.proofs.Watching.{each_added}

-- the object was declared under a word
abbrev IsDeclaredByWord : Object → Type 0
IsDeclaredByWord x = IsTrue (is_word x.name)

-- an object that is changed keeps its name
changed_words : (xs : List Object) (i : ℕ) (f : Object → Object) → ((x : Object) → (f x).name ≡ x.name) → ((x : Object) → Among xs x → IsDeclaredByWord x)
    → (x : Object) → Among (changed_at xs i f) x → IsDeclaredByWord x
changed_words [] i f same all x a = absurd a
changed_words (y ∷ ys) zero f same all x (inl e) = subst IsDeclaredByWord e (subst (λ (n : Word). IsTrue (is_word n)) (sym (same y)) (all y (inl refl)))
changed_words (y ∷ ys) zero f same all x (inr a) = all x (inr a)
changed_words (y ∷ ys) (suc i) f same all x (inl e) = all x (inl e)
changed_words (y ∷ ys) (suc i) f same all x (inr a) = changed_words ys i f same (λ z h. all z (inr h)) x a

-- an edit whose new name is a word leaves a graph of words
pub next_words : (g new : Graph) (edit : Edit) → Next g edit new → HasNewWord edit → HasWords g → HasWords new
next_words g new (Begin name lo hi) n word words = subst HasWords (sym n) words
next_words g new (Extend lo hi) n word words = subst HasWords (sym n) words
next_words g new (AddNode id labels) n word words = subst HasWords (sym n) (each_added IsDeclaredByWord g.objects (new_node id labels) words word)
next_words g new (AddEdge id labels source target) n word words = subst HasWords (sym n.4) (each_added IsDeclaredByWord g.objects (new_edge id labels n.0 n.1) words word)
next_words g new (Live id from to) n word words = subst HasWords (sym n.2.is) (changed_words g.objects n.0 _ (λ x. refl) words)
next_words g new (Gone id from to) n word words = subst HasWords (sym n.2.is) (changed_words g.objects n.0 _ (λ x. refl) words)
next_words g new (Put id prop value from to) n word words = subst HasWords (sym n.2.is) (changed_words g.objects n.0 _ (λ x. refl) words)
next_words g new (Clear id prop from to) n word words = subst HasWords (sym n.2.is) (changed_words g.objects n.0 _ (λ x. refl) words)
next_words g new (Remove id) n word words = subst HasWords (sym n.2) (changed_words g.objects n.0 _ (λ x. refl) words)
