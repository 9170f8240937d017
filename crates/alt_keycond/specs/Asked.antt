-- What the answer of `key_ask` says, in the words of the form of a key condition.
use Rattle.alt_schema.specs.declared.schema.KeyAttr.{KeyAttr}
use Rattle.alt_expr.specs.declared.cond.Comparison.TheVariants as c
use Rattle.alt_expr.specs.KeyForm.{Key, RangeTest, anything, compared, between, fronted, Ask}
use Rattle.alt_keycond.specs.declared.ask.KeyAsk.{KeyAsk}
use Rattle.alt_keycond.specs.declared.ask.RangeAsk.{RangeAsk}
use Rattle.alt_keycond.specs.declared.ask.RangeAsk.TheVariants as r

-- the key of a description
abbrev pub key_of : KeyAttr → Key
key_of k = record { name = k.name; kind = k.kind }

-- the test of the RANGE value that an ask holds
abbrev pub test_of : RangeAsk → RangeTest
test_of r.All = anything
test_of (r.Eq v) = compared c.Equal v
test_of (r.Lt v) = compared c.Less v
test_of (r.Le v) = compared c.LessEqual v
test_of (r.Gt v) = compared c.Greater v
test_of (r.Ge v) = compared c.GreaterEqual v
test_of (r.Between low high) = between low high
test_of (r.Begins v) = fronted v

-- what an answer asks
abbrev pub answer_asks : KeyAsk → Ask
answer_asks a = record { hash = a.hash; range = test_of a.range }
