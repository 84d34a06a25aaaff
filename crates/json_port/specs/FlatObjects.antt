-- The data of a flat object.
use Rattle.std.specs.Prelude.{List, take}
use Rattle.serde_json.specs.Data.{Data, object}
use Rattle.json_port.specs.declared.member.Member.{Member}
use Rattle.json_port.specs.declared.flat.Flat.{Flat}
use Rattle.json_port.specs.Flats.{listed, members_of}

-- the members in their order
abbrev pub flat_members : Flat → List Member
flat_members flat = take flat.len flat.members

-- the object that a flat one is
abbrev pub flat_data : Flat → Data
flat_data flat = object (members_of (listed flat.names) (flat_members flat))
