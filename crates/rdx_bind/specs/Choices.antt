-- One binding of each of several rows, and what a repetition binds whose turns bind these.
use Rattle.std.specs.Prelude.{◌≡◌, ℕ, List, [], ◌∷◌, ◌++◌, Option, Some, None}
use Rattle.std.specs.Borrow.{Bor}
use Rattle.rdx_lang.specs.Bindings.{Binding, len, one_name, bound_names}
use Rattle.rdx_lang.specs.Collections.{IsRepetition}
use Rattle.rdx_lang.specs.Collecting.{Arises}
use Rattle.rdx_lang.specs.Join.{IsJoin}
use Rattle.rdx_lang.specs.Members.{In}

-- cs are one binding of each row, in the order of the rows
pub data IsChoice : List (List Binding) → List Binding → Type 0 where
  choice_end : IsChoice [] []
  choice_more : {row : List Binding} {rows : List (List Binding)} {c : Binding} {cs : List Binding} →
      In c row → IsChoice rows cs → IsChoice (row ∷ rows) (c ∷ cs)

-- a list with c behind it
abbrev pub IsWith : List Binding → Binding → List Binding → Type 0
IsWith cs c ds = ds ≡ cs ++ c ∷ []

-- a list with one binding of the row behind it
abbrev pub IsLonger : List Binding → List Binding → List Binding → Type 0
IsLonger row cs ds = Arises (IsWith cs) row ds

-- a list with one binding of each row behind it
abbrev pub IsContinued : List (List Binding) → List Binding → List Binding → Type 0
IsContinued rows cs ds = (es : List Binding) × IsChoice rows es × (ds ≡ cs ++ es)

-- each binding of each row binds exactly these names
abbrev pub RowsBind : List (List ℕ) → List (List Binding) → Type 0
RowsBind xs rows = (row : List Binding) (b : Binding) → In row rows → In b row → bound_names b ≡ xs

-- none of these bindings has a mismatch name
abbrev pub ArePlain : List Binding → Type 0
ArePlain bs = (b : Binding) → In b bs → b.differs ≡ []

-- nor has any of these rows
abbrev pub RowsArePlain : List (List Binding) → Type 0
RowsArePlain rows = (row : List Binding) → In row rows → ArePlain row

-- no row is empty
abbrev pub NoneEmpty : List (List Binding) → Type 0
NoneEmpty rows = (row : List Binding) → In row rows → ¬ (row ≡ [])

-- ---- repetitions

-- b is c with the number of the turns for the length name, where there is one
pub data IsCounted (c : Binding) (n : ℕ) : Option (List ℕ) → Binding → Type 0 where
  not_counted : IsCounted c n None c
  counted : {x : List ℕ} {b : Binding} → IsJoin c (one_name x (len n)) b → IsCounted c n (Some x) b

-- a repetition of these names binds c, where its turns bind one of each row
pub record Repeats (xs : List (List ℕ)) (x : Option (List ℕ)) (rows : List (List Binding)) (c : Binding) : Type 0 where
  pub turns : List Binding
  pub choice : IsChoice rows turns
  pub repetition : IsRepetition xs turns x c

-- b is that, joined with one of the bindings behind it
pub record RepeatsWith (xs : List (List ℕ)) (x : Option (List ℕ)) (rows : List (List Binding)) (others : List Binding) (b : Binding) : Type 0 where
  pub collected : Binding
  pub repeated : Repeats xs x rows collected
  pub other : Binding
  pub among : In other others
  pub joined : IsJoin collected other b

-- the length name that a name of the code stands for, if there is one
abbrev pub length_name : Option (Bor (List ℕ)) → Option (List ℕ)
length_name None = None
length_name (Some x) = Some x.now
