-- The laws of key parts.
use Rattle.alt_keyorder.proofs.KindLaws.{one_part, parts_lie}
use Rattle.alt_keyorder.proofs.Tokens.{token_fits}
use Rattle.alt_keyorder.proofs.order.part_laws.Goals as goal

pub returns-clause-one : goal.returns-clause-one
returns-clause-one c = one_part

pub returns-clause-order : goal.returns-clause-order
returns-clause-order c = parts_lie

pub returns-clause-tokens : goal.returns-clause-tokens
returns-clause-tokens c = token_fits
