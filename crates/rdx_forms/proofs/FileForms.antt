-- The binding forms of the languages of a file, as they are found.
use Rattle.std.proofs.Common.{◌≡◌, ◌++◌, ◌<◌, ℕ, zero, suc, Bool, true, false, List, [], ◌∷◌, length, get_or, map, Option, Some, None, Vec, Global, refl, sym, ap, ◌∙◌, append-nil, arith, if◌then◌else◌}
use Rattle.std.proofs.lemmas.Cmp.{nat_list_eq_equiv}
use Rattle.std.proofs.lemmas.List.{map-append}
use Rattle.std.specs.List.{list_any}
use Rattle.std.specs.Str.{chars}
use Rattle.std.specs.Prelude.{bytes_eq, codes, ◌||◌}
use Rattle.rdx_sexp.specs.Sexp.{integer, truth, text, symbol, keyword, Sexp, leaf, list}
use Rattle.rdx_alpha.specs.Checks.{refusal_at}
use Rattle.rdx_alpha.specs.Forms.{Form}
use Rattle.rdx_alpha.specs.Reading.{forms_meant}
use Rattle.rdx_alpha.specs.View.{form_of, forms_of}
use Rattle.rdx_alpha.specs.declared.form.BindingForm.{BindingForm}
use Rattle.rdx_answer.specs.Bound.{Bound, forms_named}
use Rattle.rdx_answer.specs.Views.{bound_of}
use Rattle.rdx_lang.specs.Inside.Texts.{HaveSame}
use Rattle.rdx_lang.specs.Model.Places.{place_from}
use Rattle.rdx_lang.proofs.FirstPlaces.{none-stands, place-map, stands-at}
use Rattle.rdx_patterns.specs.Parts.{parts, is_word, symbol_text, text_of, text_or_none}
use Rattle.rdx_patterns.specs.Reading.{name_in}
use Rattle.rdx_patterns.specs.Refusal.{Refusal}
use Rattle.rdx_term.specs.Spelling.{is_name}
use Rattle.rdx_term.specs.declared.name.Name.{Name}
use Rattle.rdx_forms.specs.BindingParts.{base_among, base_at, bound_behind, forms_written, has_head, meant_unless, name_among, name_at, with_forms, without_heads}
use Rattle.rdx_forms.specs.FormKinds as kind
use Rattle.rdx_forms.specs.FormKinds.{FormKind, defines, form_kind, heads, kind_among, kind_in, kind_by_head}
use Rattle.rdx_forms.specs.Inside.Binding.{headed_otherwise, heads_among, is_headed, word_first}
use Rattle.rdx_forms.specs.LanguageForms.{base_name}
use Rattle.rdx_forms.specs.LanguageForms.{base_among as base_item}
use Rattle.rdx_forms.specs.Inside.PartViews.{second_among, second_item}

-- ---- heads

-- a form has its head among these
head-among : (fs : List Form) (g : Form) → has_head fs g ≡ list_any (bytes_eq g.head) (heads_among fs)
head-among [] g = refl
head-among (f ∷ fs) g = λ i. nat_list_eq_equiv.symm f.head g.head i || head-among fs g i

-- the next form before the others
pub otherwise_split : (xs : List (List ℕ)) (g : Form) (gs : List Form)
    → headed_otherwise xs (g ∷ gs) ≡ headed_otherwise xs (g ∷ []) ++ headed_otherwise xs gs
otherwise_split xs g gs = by_test (list_any (bytes_eq g.head) xs)
  where
    by_test : (b : Bool) → (if b then headed_otherwise xs gs else g ∷ headed_otherwise xs gs) ≡ (if b then [] else g ∷ []) ++ headed_otherwise xs gs
    by_test true = refl
    by_test false = refl

-- nothing is left of a form whose head is one of these
pub headed-so : (xs : List (List ℕ)) (g : Form) → list_any (bytes_eq g.head) xs ≡ true → headed_otherwise xs (g ∷ []) ≡ []
headed-so xs g e = ap (λ (b : Bool). if b then [] else g ∷ []) e

-- and a form with another is left
pub headed-otherwise : (xs : List (List ℕ)) (g : Form) → list_any (bytes_eq g.head) xs ≡ false → headed_otherwise xs (g ∷ []) ≡ g ∷ []
headed-otherwise xs g e = ap (λ (b : Bool). if b then [] else g ∷ []) e

-- by the same texts as the heads of forms, the others are those without their heads
pub same-heads : (xs : List (List ℕ)) (fs gs : List Form) → HaveSame xs (heads_among fs) → headed_otherwise xs gs ≡ without_heads fs gs
same-heads xs fs [] h = refl
same-heads xs fs (g ∷ gs) h = λ i.
    if (h g.head ∙ sym (head-among fs g)) i then same-heads xs fs gs h i else g ∷ same-heads xs fs gs h i

-- the head of the form at a place stands there among the heads
pub head_at : (fs : List BindingForm) (i : ℕ) (f : BindingForm) → i < length fs → f ≡ get_or fs i f
    → (i < length (heads_among (forms_of fs))) × (f.head ≡ get_or (heads_among (forms_of fs)) i f.head)
head_at [] i f h e = absurd (omega arith)
head_at (k ∷ fs) zero f h e = (omega arith, ap (λ (g : BindingForm). g.head) e)
head_at (k ∷ fs) (suc i) f h e = let r = head_at fs i f (omega arith) e in (let l = r.0 in omega arith, r.1)

-- ---- the forms of a language, at the place of its name

-- the name of a language with its binding forms
abbrev pub NamedForms : Type 0
NamedForms = Name × Vec BindingForm Global

-- those of the first of these that has the name
abbrev found_among : List NamedForms → List ℕ → Option (List Form)
found_among [] x = None
found_among (p ∷ ps) x = if bytes_eq p.0 x then Some (forms_of p.1.items) else found_among ps x

abbrev or_nothing : Option (List Form) → List Form
or_nothing None = []
or_nothing (Some fs) = fs

named-found : (ps : List NamedForms) (x : List ℕ) → forms_named (bound_of ps) x ≡ or_nothing (found_among ps x)
named-found [] x = refl
named-found (p ∷ ps) x = by_test (bytes_eq p.0 x) (named-found ps x)
  where
    by_test : (b : Bool) → forms_named (bound_of ps) x ≡ or_nothing (found_among ps x)
        → (if b then forms_of p.1.items else forms_named (bound_of ps) x) ≡ or_nothing (if b then Some (forms_of p.1.items) else found_among ps x)
    by_test true e = refl
    by_test false e = e

module _ (ps : List NamedForms) (x : List ℕ) (o : Option ℕ) (e : o ≡ place_from (λ y. y) 0 x (map (λ (p : NamedForms). p.0) ps)) where
  place : o ≡ place_from (λ (p : NamedForms). p.0) 0 x ps
  place = e ∙ place-map (λ y. y) (λ (p : NamedForms). p.0) 0 x ps

  pub forms-stand : (j : ℕ) → o ≡ Some j → (j < length ps) × ((d : NamedForms) → forms_named (bound_of ps) x ≡ forms_of (get_or ps j d).1.items)
  forms-stand j f =
      let s = stands-at (λ (p : NamedForms). p.0) (λ p. forms_of p.1.items) found_among (λ y. refl) (λ k ks y. refl) ps x o j place f in
      (s.within, λ d. named-found ps x ∙ ap or_nothing (s.stands d))

  pub no-forms : o ≡ None → forms_named (bound_of ps) x ≡ []
  no-forms f = named-found ps x ∙ ap or_nothing (none-stands (λ (p : NamedForms). p.0) (λ p. forms_of p.1.items) found_among (λ y. refl) (λ k ks y. refl) ps x o place f)

-- ---- forms by their heads

-- the table of heads, behind those of forms that define languages
abbrev behind_languages : List (List ℕ × FormKind) → List (List ℕ × FormKind)
behind_languages [] = []
behind_languages (a ∷ []) = []
behind_languages (a ∷ b ∷ rows) = rows

module _ (bs : List Bound) (d : Sexp) where
  -- each of these rows leaves what is known
  abbrev AllStay : List (List ℕ × FormKind) → Type 0
  AllStay [] = Unit {0}
  AllStay (row ∷ rows) = (bound_behind bs d row.1 ≡ bs) × AllStay rows

  stays : (rows : List (List ℕ × FormKind)) (x : List ℕ) → AllStay rows → bound_behind bs d (kind_in rows x) ≡ bs
  stays [] x a = refl
  stays (row ∷ rows) x a = by_test (bytes_eq x row.0) (stays rows x a.1)
    where
      by_test : (b : Bool) → bound_behind bs d (kind_in rows x) ≡ bs → bound_behind bs d (if b then row.1 else kind_in rows x) ≡ bs
      by_test true e = a.0
      by_test false e = e

  all_stay : AllStay (behind_languages heads)
  all_stay = (refl, (refl, (refl, (refl, (refl, (refl, (refl, (refl, (refl, (refl, (refl, (refl, (refl, (refl, (refl, (refl, (refl, (refl, (refl, (refl, (refl, (refl, (refl, tt)))))))))))))))))))))))

  -- a head of another word
  by_word : (x : List ℕ) (b c : Bool) → b ≡ false → c ≡ false
      → bound_behind bs d (if b then defines kind.language else if c then defines kind.extension else kind_in (behind_languages heads) x) ≡ bs
  by_word x true c e f = absurd cc
  by_word x false true e f = absurd cc
  by_word x false false e f = stays (behind_languages heads) x all_stay

  other_head : (h : Sexp) → is_word (codes "define-language") h ≡ false → is_word (codes "define-extended-language") h ≡ false
      → bound_behind bs d (kind_by_head h) ≡ bs
  other_head (leaf (symbol x) s) e f = by_word x (bytes_eq x (codes "define-language")) (bytes_eq x (codes "define-extended-language")) e f
  other_head (leaf (integer n) s) e f = refl
  other_head (leaf (truth b) s) e f = refl
  other_head (leaf (text t) s) e f = refl
  other_head (leaf (keyword k) s) e f = refl
  other_head (list es s) e f = refl

  other_parts : (o : Option (List Sexp)) → word_first (codes "define-language") o ≡ false → word_first (codes "define-extended-language") o ≡ false
      → bound_behind bs d (kind_among o) ≡ bs
  other_parts None e f = refl
  other_parts (Some []) e f = refl
  other_parts (Some (h ∷ ds)) e f = other_head h e f

-- what is known behind a form with another head
pub stays_behind : (bs : List Bound) (d : Sexp) → is_headed (codes "define-language") d ≡ false → is_headed (codes "define-extended-language") d ≡ false
    → bound_behind bs d (form_kind d) ≡ bs
stays_behind bs d e f = other_parts bs d (parts d) e f

language_head : (h : Sexp) → is_word (codes "define-language") h ≡ true → kind_by_head h ≡ defines kind.language
language_head (leaf (symbol x) s) e =
    λ i. if e i then defines kind.language else if bytes_eq x (codes "define-extended-language") then defines kind.extension else kind_in (behind_languages heads) x
language_head (leaf (integer n) s) e = absurd cc
language_head (leaf (truth b) s) e = absurd cc
language_head (leaf (text t) s) e = absurd cc
language_head (leaf (keyword k) s) e = absurd cc
language_head (list es s) e = absurd cc

language_parts : (o : Option (List Sexp)) → word_first (codes "define-language") o ≡ true → kind_among o ≡ defines kind.language
language_parts None e = absurd cc
language_parts (Some []) e = absurd cc
language_parts (Some (h ∷ ds)) e = language_head h e

-- a form with such a head defines a language
pub language_headed : (d : Sexp) → is_headed (codes "define-language") d ≡ true → form_kind d ≡ defines kind.language
language_headed d e = language_parts (parts d) e

extension_head : (h : Sexp) → is_word (codes "define-language") h ≡ false → is_word (codes "define-extended-language") h ≡ true
    → kind_by_head h ≡ defines kind.extension
extension_head (leaf (symbol x) s) e f =
    λ i. if e i then defines kind.language else if f i then defines kind.extension else kind_in (behind_languages heads) x
extension_head (leaf (integer n) s) e f = absurd cc
extension_head (leaf (truth b) s) e f = absurd cc
extension_head (leaf (text t) s) e f = absurd cc
extension_head (leaf (keyword k) s) e f = absurd cc
extension_head (list es s) e f = absurd cc

extension_parts : (o : Option (List Sexp)) → word_first (codes "define-language") o ≡ false → word_first (codes "define-extended-language") o ≡ true
    → kind_among o ≡ defines kind.extension
extension_parts None e f = absurd cc
extension_parts (Some []) e f = absurd cc
extension_parts (Some (h ∷ ds)) e f = extension_head h e f

-- one with this head extends one
pub extension_headed : (d : Sexp) → is_headed (codes "define-language") d ≡ false → is_headed (codes "define-extended-language") d ≡ true
    → form_kind d ≡ defines kind.extension
extension_headed d e f = extension_parts (parts d) e f

-- ---- the name of a language

-- what a symbol of a text names
name-by-text : (d : Sexp) (x : List ℕ) → symbol_text d ≡ Some x → name_in d ≡ (if is_name x then x ∷ [] else [])
name-by-text d x e = ap (λ o. if is_name (text_or_none o) then text_or_none o ∷ [] else []) e

-- a form without a second part has none
pub no_second : (d : Sexp) → second_item d ≡ None → name_at d ≡ []
no_second d e = among (parts d) e
  where
    among : (o : Option (List Sexp)) → second_among o ≡ None → name_among o ≡ []
    among None f = refl
    among (Some []) f = refl
    among (Some (h ∷ [])) f = refl
    among (Some (h ∷ l ∷ ds)) f = absurd cc

-- the second part names the language
pub second_names : (d l : Sexp) → second_item d ≡ Some l → name_at d ≡ name_in l
second_names d l e = among (parts d) e
  where
    among : (o : Option (List Sexp)) → second_among o ≡ Some l → name_among o ≡ name_in l
    among None f = absurd cc
    among (Some []) f = absurd cc
    among (Some (h ∷ [])) f = absurd cc
    among (Some (h ∷ k ∷ ds)) f = let g : k ≡ l = cc in ap name_in g

-- no text is no name
empty-name : is_name [] ≡ false
unfolding chars
empty-name = refl

-- what is no symbol names nothing
pub no_symbol : (d : Sexp) → symbol_text d ≡ None → name_in d ≡ []
no_symbol d f =
    ap (λ o. if is_name (text_or_none o) then text_or_none o ∷ [] else []) f
    ∙ ap (λ (b : Bool). let xs : List (List ℕ) = if b then [] ∷ [] else [] in xs) empty-name

-- a symbol that is a name is the name
pub named-text : (d : Sexp) (x : List ℕ) → symbol_text d ≡ Some x → is_name x ≡ true → name_in d ≡ x ∷ []
named-text d x f g = name-by-text d x f ∙ ap (λ (b : Bool). if b then x ∷ [] else []) g

-- and one that is none is not
pub unnamed-text : (d : Sexp) (x : List ℕ) → symbol_text d ≡ Some x → is_name x ≡ false → name_in d ≡ []
unnamed-text d x f g = name-by-text d x f ∙ ap (λ (b : Bool). if b then x ∷ [] else []) g

-- ---- the language that an extension names

-- its binding forms, where a name stands
pub base-named : (bs : List Bound) (d l : Sexp) → base_name d ≡ Some l → base_at bs d ≡ forms_named bs (text_of l)
base-named bs d l e = among (parts d) e
  where
    among : (o : Option (List Sexp)) → base_item o ≡ Some l → base_among bs o ≡ forms_named bs (text_of l)
    among None f = absurd cc
    among (Some []) f = absurd cc
    among (Some (h ∷ [])) f = absurd cc
    among (Some (h ∷ k ∷ [])) f = absurd cc
    among (Some (h ∷ k ∷ m ∷ ds)) f = let g : m ≡ l = cc in ap (λ (x : Sexp). forms_named bs (text_of x)) g

-- none, where none does
pub base-unnamed : (bs : List Bound) (d : Sexp) → base_name d ≡ None → base_at bs d ≡ []
base-unnamed bs d e = among (parts d) e
  where
    among : (o : Option (List Sexp)) → base_item o ≡ None → base_among bs o ≡ []
    among None f = refl
    among (Some []) f = refl
    among (Some (h ∷ [])) f = refl
    among (Some (h ∷ k ∷ [])) f = refl
    among (Some (h ∷ k ∷ m ∷ ds)) f = absurd cc

-- ---- what was written

-- what binding forms that are not refused mean
pub written-passed : (d : Sexp) (fs : List Form) → refusal_at d ≡ None → fs ≡ forms_meant d → fs ≡ forms_written d
written-passed d fs e f = f ∙ ap (λ (o : Option Refusal). meant_unless o d) (sym e)

-- others mean nothing
pub written-refused : (d : Sexp) (r : Refusal) → refusal_at d ≡ Some r → [] ≡ forms_written d
written-refused d r e = ap (λ (o : Option Refusal). meant_unless o d) (sym e)

-- ---- one more language

-- the names and the binding forms of languages with one more
pub one-more : (ps : List NamedForms) (x : Name) (v : Vec BindingForm Global)
    → bound_of (ps ++ (x, v) ∷ []) ≡ bound_of ps ++ (x, forms_of v.items) ∷ []
one-more ps x v = map-append (λ (p : NamedForms). (p.0, forms_of p.1.items)) ps ((x, v) ∷ [])

-- their names
pub names-more : (ps : List NamedForms) (x : Name) (v : Vec BindingForm Global)
    → map (λ (p : NamedForms). p.0) (ps ++ (x, v) ∷ []) ≡ map (λ (p : NamedForms). p.0) ps ++ x ∷ []
names-more ps x v = map-append (λ (p : NamedForms). p.0) ps ((x, v) ∷ [])

-- ---- what is added

-- by no name nothing
pub nothing-named : (bs : List Bound) (xs : List (List ℕ)) (fs : List Form) → [] ≡ xs → bs ≡ with_forms bs xs fs
nothing-named bs xs fs e = sym (append-nil bs) ∙ ap (λ ys. with_forms bs ys fs) e
