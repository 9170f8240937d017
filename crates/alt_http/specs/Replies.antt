-- The bytes of a reply, and what is said where a head is refused (docs/formats/http.md).
use Rattle.std.specs.Prelude.{ℕ, Bool, ◌==◌, ◌∷◌, ◌++◌, List, [], length, if◌then◌else◌, codes, decimal}
use Rattle.std.specs.List.{list_any}
use Rattle.alt_http.specs.Dates.{date_at}

-- the parts, one behind the other
abbrev pub joined : List (List ℕ) → List ℕ
joined [] = []
joined (part ∷ parts) = part ++ joined parts

-- the statuses that are ever said
abbrev pub is_status : ℕ → Bool
is_status status =
    list_any (λ s. s == status)
    (200 ∷ 400 ∷ 404 ∷ 405 ∷ 411 ∷ 413 ∷ 415 ∷ 431 ∷ 501 ∷ [])

-- the phrase behind a status
abbrev pub phrase : ℕ → List ℕ
phrase status =
    if status == 200 then codes "OK"
    else (if status == 400 then codes "Bad Request"
    else (if status == 404 then codes "Not Found"
    else (if status == 405 then codes "Method Not Allowed"
    else (if status == 411 then codes "Length Required"
    else (if status == 413 then codes "Content Too Large"
    else (if status == 415 then codes "Unsupported Media Type"
    else (if status == 431 then codes "Request Header Fields Too Large"
    else codes "Not Implemented")))))))

-- what the connection does behind the reply
abbrev pub connection_word : Bool → List ℕ
connection_word close = if close then codes "close" else codes "keep-alive"

-- the head of a reply with a body of this length, and the empty line behind it
unfoldable pub head_text : ℕ → List ℕ → Bool → ℕ → List ℕ
head_text status date close length = joined (
    codes "HTTP/1.1 " ∷ decimal status ∷ codes " " ∷ phrase status
    ∷ codes "\r\nServer: alternator\r\nDate: " ∷ date
    ∷ codes "\r\nContent-Type: application/x-amz-json-1.0\r\nContent-Length: " ∷ decimal length
    ∷ codes "\r\nConnection: " ∷ connection_word close
    ∷ codes "\r\n\r\n" ∷ [])

-- the whole reply; the body has no line end of its own
abbrev pub reply_text : ℕ → ℕ → Bool → List ℕ → List ℕ
reply_text status moment close body = head_text status (date_at moment) close (length body) ++ body

-- the status of a refusal by its number
abbrev pub refusal_status : ℕ → ℕ
refusal_status number =
    if number == 2 then 431
    else (if number == 3 then 501
    else (if number == 4 then 405
    else (if number == 5 then 404
    else (if number == 6 then 415
    else (if number == 7 then 411
    else (if number == 9 then 413
    else 400))))))

-- its body
abbrev pub refusal_body : ℕ → List ℕ
refusal_body number =
    if number == 1 then codes "{\"message\":\"bad head\"}"
    else (if number == 2 then codes "{\"message\":\"head too large\"}"
    else (if number == 3 then codes "{\"message\":\"no transfer codings\"}"
    else (if number == 4 then codes "{\"message\":\"only POST\"}"
    else (if number == 5 then codes "{\"message\":\"only /\"}"
    else (if number == 6 then codes "{\"message\":\"no content codings\"}"
    else (if number == 7 then codes "{\"message\":\"length required\"}"
    else (if number == 8 then codes "{\"message\":\"bad length\"}"
    else codes "{\"message\":\"request too long\"}")))))))

-- what lets a client go on that waits for it
abbrev pub continue_text : List ℕ
continue_text = codes "HTTP/1.1 100 Continue\r\n\r\n"
