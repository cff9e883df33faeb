-- The parts of a reply, one behind the other.
use Rattle.std.proofs.Common.{◌≡◌, ◌∙◌, ◌++◌, ℕ, List, [], ◌∷◌, codes, refl, ap, sym, append_assoc}
use Rattle.desk_messages.specs.declared.reply.form.Form.{Form}
use Rattle.std.specs.Fmt.{decimal, digits}
use Rattle.desk_messages.specs.declared.reply.head.ReplyHead.{ReplyHead}
use Rattle.desk_messages.specs.reply.Text.{allow_line, connection_line, date_line, field_line, head_text, media_type, status_line}

-- each part of a reply stands behind those before it
pub are_parts : (head : ReplyHead) (len : ℕ) (sent none a b at c d e text : List ℕ) → none ≡ []
    → a ≡ none ++ status_line head.status
    → b ≡ a ++ field_line (codes "Content-Type") (media_type head.form) ++ field_line (codes "Content-Length") (decimal len)
    → at ≡ b ++ date_line head.dated → c ≡ at ++ allow_line head.allowed → d ≡ c ++ connection_line head.closes
    → e ≡ d ++ 13 ∷ 10 ∷ [] → text ≡ e ++ sent → text ≡ head_text head len ++ sent
are_parts head len sent none a b at c d e text e0 e1 e2 e3 e4 e5 e6 e7 = rw (e7, e6, e5, e4, e3, e2, e1, e0) refl

-- the line of the status that most replies have
pub ok_line : status_line 200 ≡ codes "HTTP/1.1 200 OK" ++ 13 ∷ 10 ∷ []
unfolding status_line digits
ok_line = refl

-- the length of a body behind its name
length-pieces : (old kind : List ℕ) (len : ℕ)
    → old ++ (kind ++ codes "Content-Length: ") ++ decimal len ++ 13 ∷ 10 ∷ [] ≡ old ++ kind ++ field_line (codes "Content-Length") (decimal len)
unfolding field_line
length-pieces old kind len =
    ap (λ front. front ++ decimal len ++ 13 ∷ 10 ∷ []) (sym (append_assoc old kind (codes "Content-Length: ")))
    ∙ ap (λ front. front ++ 13 ∷ 10 ∷ []) (append_assoc (old ++ kind) (codes "Content-Length: ") (decimal len))
    ∙ append_assoc (old ++ kind) (codes "Content-Length: " ++ decimal len) (13 ∷ 10 ∷ [])

-- the fields that tell of a body, piece by piece
pub content-parts : (form : Form) (len : ℕ) (old front digits a b text : List ℕ)
    → front ≡ field_line (codes "Content-Type") (media_type form) ++ codes "Content-Length: " → digits ≡ decimal len
    → a ≡ old ++ front → b ≡ a ++ digits → text ≡ b ++ 13 ∷ 10 ∷ []
    → text ≡ old ++ field_line (codes "Content-Type") (media_type form) ++ field_line (codes "Content-Length") (decimal len)
content-parts form len old front digits a b text e1 e2 e3 e4 e5 =
    rw (e5, e4, e3, e2, e1) (length-pieces old (field_line (codes "Content-Type") (media_type form)) len)
