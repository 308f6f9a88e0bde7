-- The lines of replies that grow.
use Rattle.std.proofs.Common.{◌≡◌, ◌<◌, ◌+◌, ◌∙◌, ◌++◌, ◌∷◌, [], ℕ, List, add-zero, ap, arith, drop, get_or, length, length-take, sym, take}
use Rattle.std.proofs.lemmas.Grind.{flat_map-append}
use Rattle.std.proofs.lemmas.List.{append-nil, drop_more, length-map, map_more, take_more}
use Rattle.std.specs.List.{enumerate_from, flat_map}
use Rattle.script_player.specs.Replies.{replies_text, reply_line}
use Rattle.store_api.specs.Answers.{Answer, answer_of, answers_of}
use Rattle.store_api.specs.declared.reply.Reply.{Reply}

-- one more element is numbered after the others
numbered_more : {A : Type 0} (n : ℕ) (xs : List A) (y : A) → enumerate_from n (xs ++ y ∷ []) ≡ enumerate_from n xs ++ (n + length xs, y) ∷ []
numbered_more n [] y = ap (λ m. (m, y) ∷ []) (sym (add-zero n))
numbered_more n (x ∷ xs) y =
    let place : n + 1 + length xs ≡ n + length (x ∷ xs) = omega arith in
    ap (λ t. (n, x) ∷ t) (numbered_more (n + 1) xs y ∙ ap (λ m. enumerate_from (n + 1) xs ++ (m, y) ∷ []) place)

-- one more reply adds its line
replies_push : (answers : List Answer) (answer : Answer) (n : ℕ) → length answers ≡ n → replies_text (answers ++ answer ∷ []) ≡ replies_text answers ++ reply_line (n + 1, answer)
replies_push answers answer n size =
    let number : 1 + length answers ≡ n + 1 = omega (arith, size) in
    ap (flat_map reply_line) (numbered_more 1 answers answer)
    ∙ flat_map-append reply_line (enumerate_from 1 answers) ((1 + length answers, answer) ∷ [])
    ∙ ap (λ t. replies_text answers ++ t) (append-nil (reply_line (1 + length answers, answer)) ∙ ap (λ m. reply_line (m, answer)) number)

pub replies_more : (replies : List Reply) (i : ℕ) (d : Reply) → i < length replies
    → replies_text (answers_of (take (i + 1) replies)) ≡ replies_text (answers_of (take i replies)) ++ reply_line (i + 1, answer_of (get_or replies i d))
replies_more replies i d within =
    let size : length (answers_of (take i replies)) ≡ i = omega (arith, length-map (take i replies) answer_of, length-take i replies, within) in
    ap replies_text (map_more answer_of replies i d within) ∙ replies_push (answers_of (take i replies)) (answer_of (get_or replies i d)) i size

-- the first remaining reply, after the replies before it were written
pub next_left : (answers : List Answer) (i : ℕ) (answer : Answer) (rest : List Answer) → i < length answers → drop i answers ≡ answer ∷ rest
    → (rest ≡ drop (i + 1) answers) × (replies_text (take (i + 1) answers) ≡ replies_text (take i answers) ++ reply_line (i + 1, answer))
next_left answers i answer rest within left =
    let both : answer ∷ rest ≡ get_or answers i answer ∷ drop (i + 1) answers = sym left ∙ drop_more answers i answer within in
    let first : answer ≡ get_or answers i answer = ap (λ xs. get_or xs 0 answer) both in
    let size : length (take i answers) ≡ i = omega (arith, length-take i answers, within) in (
      ap (drop 1) both,
      ap replies_text (take_more answers i answer within ∙ ap (λ a. take i answers ++ a ∷ []) (sym first)) ∙ replies_push (take i answers) answer i size,
    )
