-- Texts of lines and of words, one piece after another.
use Rattle.std.proofs.Common.{◌≡◌, ℕ, ◌+◌, ◌<◌, List, [], ◌∷◌, ◌++◌, map, take, length, get_or, refl, ap, sym, ◌∙◌, append_assoc, append-nil}
use Rattle.std.specs.List.{flat_map, join_with_byte}
use Rattle.std.proofs.lemmas.List.{map-append, take_more}
use Rattle.agg_base.specs.Texts.{text_of_lines, text_of_words}
use Rattle.cert_text.specs.Lines.{line_text}
use Rattle.cert_text.specs.Gives.{Appends}
use Rattle.cert_text.specs.declared.line.Line.{Line}

pub text_of_lines-append : (xs ys : List (List ℕ)) → text_of_lines (xs ++ ys) ≡ text_of_lines xs ++ text_of_lines ys
text_of_lines-append [] ys = refl
text_of_lines-append (x ∷ xs) ys = ap (λ rest. x ++ 10 ∷ rest) (text_of_lines-append xs ys) ∙ sym (append_assoc x (10 ∷ text_of_lines xs) (text_of_lines ys))

-- what one more piece makes of a text
pub and_then : (x y z a b : List ℕ) → y ≡ x ++ a → z ≡ y ++ b → z ≡ x ++ (a ++ b)
and_then x y z a b e f = f ∙ ap (λ t. t ++ b) e ∙ append_assoc x a b

-- lines and then more lines
pub appends_more : (old mid new : List ℕ) (xs ys : List Line) → Appends old xs mid → Appends mid ys new → Appends old (xs ++ ys) new
appends_more old mid new xs ys e f =
    and_then old mid new _ _ e f
    ∙ ap (λ t. old ++ t) (sym (text_of_lines-append (map line_text xs) (map line_text ys)) ∙ ap text_of_lines (sym (map-append line_text xs ys)))

-- one more line of a list
pub appends_item : {X : Type 0} (f : X → Line) (old mid new : List ℕ) (xs : List X) (i : ℕ) (x : X)
    → i < length xs → x ≡ get_or xs i x → Appends old (map f (take i xs)) mid → Appends mid (f x ∷ []) new
    → Appends old (map f (take (i + 1) xs)) new
appends_item f old mid new xs i x h e before now =
    appends_more old mid new (map f (take i xs)) (f x ∷ []) before now
    ∙ ap (λ ls. old ++ text_of_lines (map line_text ls)) (sym (ap (map f) (take_more xs i x h ∙ ap (λ y. take i xs ++ y ∷ []) (sym e)) ∙ map-append f (take i xs) (x ∷ [])))

-- one more number of a list, behind a space
pub spaced_more : {X : Type 0} (f : X → List ℕ) (old mid new : List ℕ) (xs : List X) (i : ℕ) (x : X)
    → i < length xs → x ≡ get_or xs i x → mid ≡ old ++ flat_map f (take i xs) → new ≡ mid ++ f x
    → new ≡ old ++ flat_map f (take (i + 1) xs)
spaced_more f old mid new xs i x h e before now =
    and_then old mid new _ _ before now ∙ ap (λ t. old ++ t) (sym (ap (flat_map f) (take_more xs i x h ∙ ap (λ y. take i xs ++ y ∷ []) (sym e)) ∙ flat_map-snoc f (take i xs) x))
  where
    flat_map-snoc : {X : Type 0} (f : X → List ℕ) (xs : List X) (x : X) → flat_map f (xs ++ x ∷ []) ≡ flat_map f xs ++ f x
    flat_map-snoc f [] x = append-nil (f x)
    flat_map-snoc f (y ∷ ys) x = ap (λ t. f y ++ t) (flat_map-snoc f ys x) ∙ sym (append_assoc (f y) (flat_map f ys) (f x))

-- words behind a word, each behind a space
pub words_spaced : {X : Type 0} (f : X → List ℕ) (word : List ℕ) (xs : List X) → join_with_byte 32 (word ∷ map f xs) ≡ word ++ flat_map (λ x. 32 ∷ f x) xs
words_spaced f word [] = sym (append-nil word)
words_spaced f word (x ∷ xs) = ap (λ t. word ++ 32 ∷ t) (words_spaced f (f x) xs)

-- the same with words of two lists
pub words_spaced_twice : {X Y : Type 0} (f : X → List ℕ) (g : Y → List ℕ) (word : List ℕ) (xs : List X) (ys : List Y)
    → join_with_byte 32 (word ∷ (map f xs ++ map g ys)) ≡ (word ++ flat_map (λ x. 32 ∷ f x) xs) ++ flat_map (λ y. 32 ∷ g y) ys
words_spaced_twice f g word [] ys = words_spaced g word ys ∙ ap (λ t. t ++ flat_map (λ y. 32 ∷ g y) ys) (sym (append-nil word))
words_spaced_twice f g word (x ∷ xs) ys =
    ap (λ t. word ++ 32 ∷ t) (words_spaced_twice f g (f x) xs ys)
    ∙ sym (append_assoc word (32 ∷ (f x ++ flat_map (λ x. 32 ∷ f x) xs)) (flat_map (λ y. 32 ∷ g y) ys))

-- a line of words that were appended one piece after another
pub line_of_pieces : (old a b new text front back : List ℕ) → a ≡ old ++ front → b ≡ a ++ back → new ≡ b ++ 10 ∷ [] → text ≡ front ++ back
    → new ≡ old ++ text_of_lines (text ∷ [])
line_of_pieces old a b new text front back e f g is =
    g ∙ ap (λ t. t ++ 10 ∷ []) (and_then old a b front back e f ∙ ap (λ t. old ++ t) (sym is)) ∙ append_assoc old text (10 ∷ [])

pub line_of_three_pieces : (old a b c new text front mid back : List ℕ) → a ≡ old ++ front → b ≡ a ++ mid → c ≡ b ++ back → new ≡ c ++ 10 ∷ []
    → text ≡ (front ++ mid) ++ back → new ≡ old ++ text_of_lines (text ∷ [])
line_of_three_pieces old a b c new text front mid back e f g h is =
    line_of_pieces old b c new text (front ++ mid) back (and_then old a b front mid e f) g h is
