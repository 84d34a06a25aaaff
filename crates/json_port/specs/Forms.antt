-- The data of an object in either form.
use Rattle.serde_json.specs.Data.{Data}
use Rattle.serde_json.specs.View.{view}
use Rattle.json_port.specs.declared.object.Object.{Object}
use Rattle.json_port.specs.FlatObjects.{flat_data}

-- the data of an object that was read
abbrev pub data_of : Object → Data
data_of (Object.Flat flat) = flat_data flat.now
data_of (Object.Value value) = view value.now
