-- The tables of an equal graph.
use Rattle.std.proofs.Common.{◌≡◌, List, [], ◌∷◌, Bool, true, false, Option, Some, cond, refl, sym, ◌∙◌, subst}
use Rattle.std.specs.Prelude.{vec_len}
use Rattle.std.specs.List.{AllZip, each_same}
use Rattle.std.specs.Map.{lookup}
use Rattle.std.specs.declared.alloc.Global.{Global}
use Rattle.std.specs.declared.vec.Vec.{Vec}
use Rattle.itpg_base.specs.Words.{Word}
use Rattle.itpg_base.specs.Graphs.{Graph}
use Rattle.itpg_base.specs.declared.object_number.ObjNo.{ObjNo}
use Rattle.itpg_graph.specs.LabelLists.{numbers_or_none}
use Rattle.itpg_graph.specs.Stores.{Table, listed, IsStore}

-- one list has the numbers of the other
abbrev pub IsCopy : Vec ObjNo Global → Vec ObjNo Global → Type 0
IsCopy v w = AllZip (λ m n. n ≡ m) v.items w.items × (vec_len w ≡ vec_len v)

first_or : (b : Bool) (v w : Vec ObjNo Global) (r s : Option (Vec ObjNo Global)) → IsCopy v w → numbers_or_none s ≡ numbers_or_none r → numbers_or_none (cond b (Some w) s) ≡ numbers_or_none (cond b (Some v) r)
first_or true v w r s copy rest = each_same v.items w.items copy.0
first_or false v w r s copy rest = rest

-- of copied entries the same list is found
pub list_alike : (test : Word → Bool) (xs ys : List (Word × Vec ObjNo Global)) → AllZip (λ p q. (q.0 ≡ p.0) × IsCopy p.1 q.1) xs ys → numbers_or_none (lookup test ys) ≡ numbers_or_none (lookup test xs)
list_alike test [] [] h = refl
list_alike test [] (y ∷ ys) h = absurd h
list_alike test (x ∷ xs) [] h = absurd h
list_alike test (x ∷ xs) (y ∷ ys) h = subst (λ name. numbers_or_none (cond (test name) (Some y.1) (lookup test ys)) ≡ numbers_or_none (lookup test (x ∷ xs))) (sym h.0.0) (first_or (test x.0) x.1 y.1 (lookup test xs) (lookup test ys) h.0.1 (list_alike test xs ys h.1))

-- an equal graph with tables that find the same
pub copied_store : (old new : Graph) (numbers more : Table) (out out' into into' : List (List ObjNo)) → new ≡ old → ((name : Word) → listed more name ≡ listed numbers name) → out' ≡ out → into' ≡ into → IsStore old numbers out into
    → IsStore new more out' into'
copied_store old new numbers more out out' into into' graph names from to store =
    subst (λ g. IsStore g more out' into') (sym graph)
    (subst (λ ls. IsStore old more ls into') (sym from)
    (subst (λ ls. IsStore old more out ls) (sym to) (record {
      good = store.good;
      indexed = record {
        whole = λ name o named. names name ∙ store.indexed.whole name o named;
        only = λ name o e. store.indexed.only name o (sym (names name) ∙ e);
      };
      sources = record { each = store.sources.each; count = store.sources.count };
      targets = record { each = store.targets.each; count = store.targets.count };
    })))
