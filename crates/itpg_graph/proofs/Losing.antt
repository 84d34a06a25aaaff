-- A table of lists in which one list loses a number.
use Rattle.std.proofs.Common.{◌≡◌, ◌≢◌, ℕ, List, map, Some, refl, sym, subst}
use Rattle.std.specs.Prelude.{slice_get, slice_set}
use Rattle.std.specs.declared.alloc.Global.{Global}
use Rattle.std.specs.declared.vec.Vec.{Vec}
use Rattle.itpg_base.specs.Graphs.{changed_at}
use Rattle.itpg_base.specs.declared.object_number.ObjNo.{ObjNo}
use Rattle.itpg_base.proofs.Objects.{get_changed, get_other, length-changed_at, same_some}
use Rattle.itpg_graph.specs.Edges.{HasNumber, AreRising, AreNumbers}
use Rattle.itpg_graph.specs.Links.{list_of, LosesNumber}
use Rattle.itpg_graph.proofs.Lists.{map_changed, at_mapped}

pub loses_number : (lists : List (Vec ObjNo Global)) (o e : ℕ) (was new : Vec ObjNo Global) → slice_get lists o ≡ Some was → (AreRising was.items → AreNumbers (λ k. HasNumber was.items k × (k ≢ e)) new.items)
    → LosesNumber (map list_of lists) o e (map list_of (slice_set lists o new))
loses_number lists o e was new at numbers =
    let table = map list_of lists in
    let is : map list_of (slice_set lists o new) ≡ changed_at table o (λ list. new.items) = map_changed list_of lists o was new (λ list. new.items) at refl in
    let here : slice_get table o ≡ Some was.items = at_mapped list_of lists o was at in
    let loses : LosesNumber table o e (changed_at table o (λ list. new.items)) = record {
      others = λ k apart. get_other table o k (λ list. new.items) apart;
      count = length-changed_at table o (λ list. new.items);
      own = λ old list there after rising.
          let same : was.items ≡ old = same_some _ _ (slice_get table o) here there in
          let also : new.items ≡ list = same_some _ _ _ (get_changed table o (λ list. new.items) was.items here) after in
          subst (λ (xs : List ObjNo). AreNumbers (λ k. HasNumber xs k × (k ≢ e)) list) same (subst (AreNumbers (λ k. HasNumber was.items k × (k ≢ e))) also (numbers (subst AreRising (sym same) rising)));
    } in
    subst (LosesNumber table o e) (sym is) loses
