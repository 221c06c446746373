-- Uses of names as the code counts them: depths up to the limit.
use Rattle.std.specs.Prelude.{min, List, map}
use Rattle.rdx_lang.specs.Depths.{Use, depth_limit}
use Rattle.rdx_lang.specs.declared.uses.Use as code

-- a use, its depth counted up to the limit
abbrev pub capped : Use → Use
capped u = record { name = u.name; depth = min u.depth depth_limit; is_length = u.is_length }

-- uses in their order
abbrev pub capped_uses : List Use → List Use
capped_uses us = map capped us

-- the use that a use of the code stands for
abbrev pub use_in : code.Use → Use
use_in u = record { name = u.name.now; depth = u.depth; is_length = u.is_length }

-- uses in their order
abbrev pub uses_in : List code.Use → List Use
uses_in us = map use_in us
