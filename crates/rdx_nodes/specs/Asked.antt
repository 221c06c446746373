-- What is asked of a pattern and a term.
use Rattle.std.specs.Prelude.{Bool, true, false}
use Rattle.rdx_bind.specs.declared.asks.Ask.{Ask}
use Rattle.rdx_bind.specs.declared.asks.Ask.TheVariants.{Matches, Splits}

-- what is asked: splits besides matches, or matches alone
abbrev pub asked_where : Bool → Ask
asked_where true = Splits
asked_where false = Matches
