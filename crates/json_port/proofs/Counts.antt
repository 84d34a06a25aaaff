-- How many members an object has.
use Rattle.std.proofs.Common.{◌≡◌, List, length, Some, ap}
use Rattle.serde_json.specs.declared.value.Value.{Value}
use Rattle.serde_json.specs.View.{items_view}
use Rattle.serde_json.proofs.Views.{items_len-items_view}
use Rattle.serde_json.specs.Data.{Data, null, boolean, number, string, array, object, Members}
use Rattle.serde_json.specs.Find.{as_object}
use Rattle.serde_json.specs.Events.{items_len, members_len}
use Rattle.json_port.specs.Parts.{count_of}

pub count_of_object : (d : Data) (ms : Members) → Some ms ≡ as_object d → count_of d ≡ members_len ms
count_of_object null ms e = absurd (cc)
count_of_object (boolean b) ms e = absurd (cc)
count_of_object (number n) ms e = absurd (cc)
count_of_object (string s) ms e = absurd (cc)
count_of_object (array items) ms e = absurd (cc)
count_of_object (object members) ms e = let same : members ≡ ms = cc in ap members_len same

pub count_of_items : (vs : List Value) → items_len (items_view vs) ≡ length vs
count_of_items vs = items_len-items_view vs
