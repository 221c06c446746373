-- The column of a repetition, from the last place to the first.
use Rattle.std.proofs.Common.{◌≡◌, ◌∙◌, ℕ, ◌+◌, ◌<◌, ◌≤◌, List, [], ◌∷◌, ◌++◌, length, get_or, drop, reverse, Option, refl, sym, ap}
use Rattle.std.proofs.Common.{subst, arith, add-one}
use Rattle.std.proofs.Math.Seq.{drop-cons}
use Rattle.std.proofs.lemmas.List.{map-append, reverse-append, drop_all}
use Rattle.rdx_bind.specs.Columns.{HasAsked}
use Rattle.rdx_bind.specs.Rows.{SplitRow, split_row_of, split_rows_of}
use Rattle.rdx_bind.specs.Turns.{TurnsTo, SplitsTurn, AreTurns, turns_end, turns_more}
use Rattle.rdx_bind.specs.declared.asks.Ask.{Ask}
use Rattle.rdx_bind.specs.declared.rows.Row as code

-- ---- rows put in reverse

-- rows in reverse
pub rows_reversed : (rows : List code.Row) → split_rows_of (reverse rows) ≡ reverse (split_rows_of rows)
rows_reversed [] = refl
rows_reversed (row ∷ rows) =
    ap split_rows_of (reverse-append (row ∷ []) rows) ∙ map-append split_row_of (reverse rows) (row ∷ []) ∙ ap (λ (rs : List SplitRow). rs ++ split_row_of row ∷ []) (rows_reversed rows)
    ∙ sym (reverse-append (split_row_of row ∷ []) (split_rows_of rows))

-- the row that is put last comes first
pub row_put : (rows all : List code.Row) (row : code.Row) → all ≡ rows ++ row ∷ [] →
    reverse (split_rows_of all) ≡ split_row_of row ∷ reverse (split_rows_of rows)
row_put rows all row e =
    ap (λ (rs : List code.Row). reverse (split_rows_of rs)) e ∙ ap reverse (map-append split_row_of rows (row ∷ [])) ∙ reverse-append (split_rows_of rows) (split_row_of row ∷ [])

-- ---- places

-- from a place on there is what stands there, and the rest
pub from_place : {A : Type 0} (xs : List A) (k i : ℕ) (d : A) → k + 1 ≡ i → k < length xs → drop k xs ≡ get_or xs k d ∷ drop i xs
from_place xs k i d e h = drop-cons xs k d h ∙ ap (λ (j : ℕ). get_or xs k d ∷ drop j xs) (sym (add-one k) ∙ e)

-- from the last place on there is what stands there
pub from_last : {A : Type 0} (xs : List A) (n : ℕ) (d : A) → length xs ≡ n + 1 → drop n xs ≡ get_or xs n d ∷ []
from_last xs n d e =
    from_place xs n (n + 1) d refl (omega arith) ∙ ap (λ (ys : List _). get_or xs n d ∷ ys) (drop_all (n + 1) xs (omega arith))

-- the same for rows of the code
pub rows_from_place : (rows : List code.Row) (k i : ℕ) (d : code.Row) → k + 1 ≡ i → k < length rows →
    split_rows_of (drop k rows) ≡ split_row_of (get_or rows k d) ∷ split_rows_of (drop i rows)
rows_from_place rows k i d e h = ap split_rows_of (from_place rows k i d e h)

pub rows_from_last : (rows : List code.Row) (n : ℕ) (d : code.Row) → length rows ≡ n + 1 →
    split_rows_of (drop n rows) ≡ split_row_of (get_or rows n d) ∷ []
rows_from_last rows n d e = ap split_rows_of (from_last rows n d e)

-- behind all rows there is none
pub rows_behind : (rows : List code.Row) (n : ℕ) → length rows ≤ n → split_rows_of (drop n rows) ≡ []
rows_behind rows n h = ap split_rows_of (drop_all n rows h)

-- ---- the column

-- a row has what is asked of the place
abbrev pub IsTurnRow : List (List ℕ) → Option (List ℕ) → Ask → List SplitRow → List SplitRow → SplitRow → Type 0
IsTurnRow xs x ask cells nexts row = HasAsked (TurnsTo xs x cells nexts) (SplitsTurn xs x cells nexts) ask row

-- the column of the place behind the last cell
pub last_column : (xs : List (List ℕ)) (x : Option (List ℕ)) (ask : Ask) (next row : SplitRow) (asks : List Ask) (cells nexts : List SplitRow) →
    asks ≡ ask ∷ [] → cells ≡ [] → nexts ≡ next ∷ [] → IsTurnRow xs x ask cells nexts row → AreTurns xs x asks cells nexts (row ∷ [])
last_column xs x ask next row asks cells nexts e f g h =
    subst (λ (ks : List Ask). AreTurns xs x ks cells nexts (row ∷ [])) (sym e)
    (subst (λ (cs : List SplitRow). IsTurnRow xs x ask cs nexts row → AreTurns xs x (ask ∷ []) cs nexts (row ∷ [])) (sym f)
    (subst (λ (ns : List SplitRow). IsTurnRow xs x ask [] ns row → AreTurns xs x (ask ∷ []) [] ns (row ∷ [])) (sym g) turns_end) h)

-- the column of one place more
pub more_column : (xs : List (List ℕ)) (x : Option (List ℕ)) (ask : Ask) (cell next row : SplitRow) (asks asks' : List Ask) (cells cells' nexts nexts' rows : List SplitRow) →
    asks' ≡ ask ∷ asks → cells' ≡ cell ∷ cells → nexts' ≡ next ∷ nexts → IsTurnRow xs x ask cells' nexts' row → AreTurns xs x asks cells nexts rows → AreTurns xs x asks' cells' nexts' (row ∷ rows)
more_column xs x ask cell next row asks asks' cells cells' nexts nexts' rows e f g h t =
    subst (λ (ks : List Ask). AreTurns xs x ks cells' nexts' (row ∷ rows)) (sym e)
    (subst (λ (cs : List SplitRow). IsTurnRow xs x ask cs nexts' row → AreTurns xs x (ask ∷ asks) cs nexts' (row ∷ rows)) (sym f)
    (subst (λ (ns : List SplitRow). IsTurnRow xs x ask (cell ∷ cells) ns row → AreTurns xs x (ask ∷ asks) (cell ∷ cells) ns (row ∷ rows)) (sym g) (λ i. turns_more i t)) h)
