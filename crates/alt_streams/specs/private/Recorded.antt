-- Members behind others, as the members of a record are put.
use Rattle.serde_json.specs.Data.{Members, member, no_members}

-- members behind others
abbrev pub behind : Members → Members → Members
behind no_members ms = ms
behind (member name d more) ms = member name d (behind more ms)
