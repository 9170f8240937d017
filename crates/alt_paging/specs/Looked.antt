-- What is asked of each item, made ready, for private contracts.
use Rattle.std.specs.Prelude.{◌≡◌, List, Option, IfSome}
use Rattle.alt_expr.specs.Pages.{passes}
use Rattle.alt_paging.specs.declared.ask.PageAsk.{PageAsk}
use Rattle.alt_paging.specs.declared.look.Look.{Look}
use Rattle.alt_value.specs.Tree.{Pair}

-- What was made ready is for what was asked: its filter lets the same items pass, and its paths are the same.
pub record IsFor (look : Look) (ask : PageAsk) : Type 0 where
  pub filter : (item : List Pair) → passes look.filter item ≡ passes ask.filter item
  pub paths : look.paths ≡ ask.paths

-- what was made ready, if something was, is for what was asked
abbrev pub IsLooked : Option Look → PageAsk → Type 0
IsLooked look ask = IfSome look (λ l. IsFor l ask)
