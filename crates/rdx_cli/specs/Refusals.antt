-- The line that says why a file is refused, and where.
use Rattle.std.specs.Prelude.{ℕ, List, [], ◌++◌, Option, Some, None, codes, decimal}
use Rattle.rdx_base.specs.declared.place.Place.{Place}
use Rattle.rdx_sexp.specs.declared.fault.ReadKind.{ReadKind}
use Rattle.rdx_sexp.specs.declared.fault.ReadKind.TheVariants.{NotUtf8, Unclosed, WrongClose, BadToken, NumberForm, NumberRange, BadString, TooDeep}
use Rattle.rdx_sexp.specs.declared.fault.ReadRefusal.{ReadRefusal}
use Rattle.rdx_patterns.specs.Refusal.{Refusal}
use Rattle.rdx_patterns.specs.declared.shape.fault.DefKind.{DefKind}
use Rattle.rdx_patterns.specs.declared.shape.fault.DefKind.TheVariants.{Shape, UnknownLanguage, Duplicate, BadName, BadPattern, EllipsisDepth, LeftRecursive, UnknownName, EllipsisVariable, RacketEscape, Mode}

-- the name of what a text is refused for
abbrev pub read_name : ReadKind → List ℕ
read_name NotUtf8 = codes "F1 NotUtf8"
read_name Unclosed = codes "F2 Unclosed"
read_name WrongClose = codes "F3 WrongClose"
read_name BadToken = codes "F4 BadToken"
read_name NumberForm = codes "F5 NumberForm"
read_name NumberRange = codes "F6 NumberRange"
read_name BadString = codes "F7 BadString"
read_name TooDeep = codes "F8 TooDeep"

-- the name of what a form is refused for
abbrev pub form_name : DefKind → List ℕ
form_name Shape = codes "S1 Shape"
form_name UnknownLanguage = codes "S2 UnknownLanguage"
form_name Duplicate = codes "S3 Duplicate"
form_name BadName = codes "S4 BadName"
form_name BadPattern = codes "S5 BadPattern"
form_name EllipsisDepth = codes "S6 EllipsisDepth"
form_name LeftRecursive = codes "S7 LeftRecursive"
form_name UnknownName = codes "S8 UnknownName"
form_name EllipsisVariable = codes "S9 EllipsisVariable"
form_name RacketEscape = codes "S10 RacketEscape"
form_name Mode = codes "S11 Mode"

-- the front of the line: why the file is refused, and where
abbrev pub place_text : List ℕ → Place → List ℕ
place_text kind p = codes "refused " ++ kind ++ codes " at " ++ decimal p.line ++ codes ":" ++ decimal p.column

-- a name at the end of the line, where there is one
abbrev pub name_text : Option (List ℕ) → List ℕ
name_text None = []
name_text (Some x) = codes " " ++ x

-- the line of a refusal of this kind at this place, with this name
abbrev pub refusal_line : List ℕ → Place → Option (List ℕ) → List ℕ
refusal_line kind p name = place_text kind p ++ name_text name ++ codes "\n"

-- the line of a text that can't be read
abbrev pub read_line : ReadRefusal → List ℕ
read_line r = refusal_line (read_name r.kind) r.place None

-- the line that says that the last language of a file has not this nonterminal; it has no place
abbrev pub nonterminal_line : List ℕ → List ℕ
nonterminal_line x = codes "refused S12 NoNonterminal " ++ x ++ codes "\n"

-- the line of a form that is refused
abbrev pub form_line : Refusal → List ℕ
form_line r = refusal_line (form_name r.kind) r.place r.name
