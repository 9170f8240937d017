use Rattle.std.proofs.Common.{◌≡◌, ◌++◌, ◌∷◌, [], ℕ, List, OnOk, subst}
use Rattle.std.specs.Prelude.{codes, decimal}
use Rattle.alt_http.specs.Replies.{joined, head_text}
use Rattle.alt_http.proofs.replying.put_head.Goals as goal

-- the head with these words in it
abbrev head_with : List ℕ → List ℕ → ℕ → List ℕ → ℕ → List ℕ
head_with phrase word status date length = joined (
    codes "HTTP/1.1 " ∷ decimal status ∷ codes " " ∷ phrase
    ∷ codes "\r\nServer: alternator\r\nDate: " ∷ date
    ∷ codes "\r\nContent-Type: application/x-amz-json-1.0\r\nContent-Length: " ∷ decimal length
    ∷ codes "\r\nConnection: " ∷ word
    ∷ codes "\r\n\r\n" ∷ [])

pub returns-clause-ok : goal.returns-clause-ok
unfolding head_text
returns-clause-ok c =
    subst (λ (u : List ℕ × List ℕ). OnOk c.put_all.result
    (c.put_all.new.out.items ≡ c.args.out.now.items
    ++ head_with u.0 u.1 c.args.status c.args.date c.args.length))
    (λ i. (c.phrase.ensures i, c.connection_word.ensures i)) c.put_all.ensures.ok
