-- Contents that are read in part.
use Rattle.std.proofs.Common.{◌≡◌, ◌∙◌, Bool, true, false, [], ◌∷◌, length, refl, sym, ltb-true, arith}
use Rattle.std.specs.Prelude.{◌&&◌, nat_lt}
use Rattle.std.proofs.lemmas.Bool.{and_parts, false≢true}
use Rattle.content_files.specs.Notes.{is_read}
use Rattle.spec_lib.specs.Texts.{Text}
use Rattle.unread_contents.specs.Unread.{AgreeWhereRead, IsReadAs, ReadContentsAreTheSame}

-- a content is read as itself
pub read_itself : (x : Text) → IsReadAs x x
read_itself [] = tt
read_itself (b ∷ bytes) = (λ _. refl, read_itself bytes)

-- a content that is read keeps its length
pub read_length : (x y : Text) → IsReadAs x y → length x ≡ length y
read_length [] [] h = refl
read_length [] (b ∷ y) h = absurd h
read_length (a ∷ x) [] h = absurd h
read_length (a ∷ x) (b ∷ y) h = let rest = read_length x y h.1 in omega arith

-- a content of which all was read is the same
pub read_all : (x y : Text) → IsReadAs x y → is_read x ≡ true → x ≡ y
read_all [] [] h all = refl
read_all [] (b ∷ y) h all = absurd h
read_all (a ∷ x) [] h all = absurd h
read_all (a ∷ x) (b ∷ y) h all = by (nat_lt a 256) refl all (read_all x y h.1)
  where
    by : (t : Bool) → nat_lt a 256 ≡ t → (t && is_read x) ≡ true → (is_read x ≡ true → x ≡ y) → a ∷ x ≡ b ∷ y
    by true is rest later = λ i. h.0 (ltb-true a 256 is) i ∷ later rest i
    by false is rest later = absurd (false≢true rest)

-- what is known of one content agrees
pub known_agree : (x y z : Text) → IsReadAs x z → IsReadAs y z → AgreeWhereRead x y
known_agree [] [] z p q = tt
known_agree [] (b ∷ y) [] p q = absurd q
known_agree [] (b ∷ y) (c ∷ z) p q = absurd p
known_agree (a ∷ x) [] [] p q = absurd p
known_agree (a ∷ x) [] (c ∷ z) p q = absurd q
known_agree (a ∷ x) (b ∷ y) [] p q = absurd p
known_agree (a ∷ x) (b ∷ y) (c ∷ z) p q = (λ one other. p.0 one ∙ sym (q.0 other), known_agree x y z p.1 q.1)

-- contents that agree are as long, and the same if both were read
agree_length : (x y : Text) → AgreeWhereRead x y → length x ≡ length y
agree_length [] [] h = refl
agree_length [] (b ∷ y) h = absurd h
agree_length (a ∷ x) [] h = absurd h
agree_length (a ∷ x) (b ∷ y) h = let rest = agree_length x y h.1 in omega arith

agree_read : (x y : Text) → AgreeWhereRead x y → is_read x ≡ true → is_read y ≡ true → x ≡ y
agree_read [] [] h p q = refl
agree_read [] (b ∷ y) h p q = absurd h
agree_read (a ∷ x) [] h p q = absurd h
agree_read (a ∷ x) (b ∷ y) h p q =
    let one = and_parts (nat_lt a 256) (is_read x) p in
    let other = and_parts (nat_lt b 256) (is_read y) q in
    λ i. h.0 (ltb-true a 256 one.0) (ltb-true b 256 other.0) i ∷ agree_read x y h.1 one.1 other.1 i

pub read_contents_are_the_same : ReadContentsAreTheSame
read_contents_are_the_same x y h = (agree_length x y h, agree_read x y h)
