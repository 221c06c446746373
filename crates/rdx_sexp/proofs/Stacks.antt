-- The frames of a stack with one more level.
use Rattle.std.proofs.Common.{◌≡◌, List, [], ◌∷◌, ◌++◌, map, reverse, length, ap, ◌∙◌}
use Rattle.std.proofs.lemmas.List.{reverse-append, length-reverse, length-map, map-append}
use Rattle.rdx_sexp.specs.declared.reader.Level.{Level}
use Rattle.rdx_sexp.specs.Inside.Stack.{frame_of, frames}

-- the new level is the innermost
pub frames-push : (ls : List Level) (l : Level) → frames (ls ++ l ∷ []) ≡ frame_of l ∷ frames ls
frames-push ls l = ap reverse (map-append frame_of ls (l ∷ [])) ∙ reverse-append (map frame_of ls) (frame_of l ∷ [])

-- and it is what a pop takes
pub frames-pop : (old new : List Level) (l : Level) → old ≡ new ++ l ∷ [] → frames old ≡ frame_of l ∷ frames new
frames-pop old new l e = ap frames e ∙ frames-push new l

-- there are as many frames as levels
pub length-frames : (ls : List Level) → length (frames ls) ≡ length ls
length-frames ls = length-reverse (map frame_of ls) ∙ length-map ls frame_of
