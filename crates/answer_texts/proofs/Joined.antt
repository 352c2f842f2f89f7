-- Pieces that are added one after another are added together.
use Rattle.std.proofs.Common.{◌≡◌, ℕ, List, [], ◌∷◌, ◌++◌, refl, ap, ◌∙◌}
use Rattle.std.proofs.lemmas.List.{append_assoc}
use Rattle.json.specs.Token.{Token}
use Rattle.std.proofs.Common.{codes, Option, Some, None, option_map}
use Rattle.json.specs.Print.{escape_byte}
use Rattle.ocpp_types.specs.TimeText.{time_text}
use Rattle.serde_json.specs.Data.{string}
use Rattle.serde_json.specs.Written.{compact_text}
use Rattle.ocpp_types.specs.declared.authorization_status.AuthorizationStatus.{AuthorizationStatus}
use Rattle.ocpp_types.specs.declared.data_transfer_status.DataTransferStatus.{DataTransferStatus}
use Rattle.ocpp_types.specs.AuthorizationStatus.{authorization_status_name}
use Rattle.ocpp_types.specs.DataTransferStatus.{data_transfer_status_name}
use Rattle.ocpp_payload.specs.Conf.{time_data, id_tag_info_data, data_transfer_conf}
use Rattle.answer_texts.specs.Pieces.{before_next}
use Rattle.json.specs.Print.{print, print_from, quoted}

pub no_more : (s : List ℕ) → s ++ [] ≡ s
no_more [] = refl
no_more (x ∷ xs) = ap (λ ys. x ∷ ys) (no_more xs)

pub one_string : (s : List ℕ) → print (Token.string s ∷ []) ≡ quoted s
unfolding print_from
one_string s = no_more (quoted s)

pub one_number : (s : List ℕ) → print (Token.number s ∷ []) ≡ s
unfolding print_from
one_number s = no_more s

pub three : (t a b c : List ℕ) → t ++ a ++ b ++ c ≡ t ++ (a ++ (b ++ c))
three t a b c = append_assoc (t ++ a) b c ∙ append_assoc t a (b ++ c)

pub five : (t a b c d e : List ℕ) → t ++ a ++ b ++ c ++ d ++ e ≡ t ++ (a ++ (b ++ (c ++ (d ++ e))))
five t a b c d e = three (t ++ a ++ b) c d e ∙ append_assoc (t ++ a) b (c ++ (d ++ e)) ∙ append_assoc t a (b ++ (c ++ (d ++ e)))

pub six : (t a b c d e f : List ℕ) → t ++ a ++ b ++ c ++ d ++ e ++ f ≡ t ++ (a ++ (b ++ (c ++ (d ++ (e ++ f)))))
six t a b c d e f = five (t ++ a) b c d e f ∙ append_assoc t a (b ++ (c ++ (d ++ (e ++ f))))

pub seven : (t a b c d e f g : List ℕ) → t ++ a ++ b ++ c ++ d ++ e ++ f ++ g ≡ t ++ (a ++ (b ++ (c ++ (d ++ (e ++ (f ++ g))))))
seven t a b c d e f g = six (t ++ a) b c d e f g ∙ append_assoc t a (b ++ (c ++ (d ++ (e ++ (f ++ g)))))

member_first : (k d rest : List ℕ) → (k ++ 58 ∷ (d ++ 44 ∷ [])) ++ rest ≡ k ++ (58 ∷ (d ++ 44 ∷ rest))
member_first k d rest = append_assoc k (58 ∷ (d ++ 44 ∷ [])) rest ∙ ap (λ m. k ++ 58 ∷ m) (append_assoc d (44 ∷ []) rest)

status_text : List ℕ → List ℕ
status_text name = codes "\"status\":" ++ (quoted name ++ 125 ∷ [])

pub info_text : (e : Option ℕ) (p : Option (List ℕ)) (s : AuthorizationStatus)
    → 123 ∷ (before_next (codes "expiryDate") (option_map time_data e) ++ (before_next (codes "parentIdTag") (option_map string p) ++ (codes "\"status\":" ++ (quoted (authorization_status_name s) ++ 125 ∷ []))))
    ≡ compact_text (id_tag_info_data (record { expiry_date = e; parent_id_tag = p; status = s }))
unfolding escape_byte status_text
info_text None None s = refl
info_text None (Some p) s = ap (λ m. 123 ∷ m) (member_first (quoted (codes "parentIdTag")) (quoted p) (status_text (authorization_status_name s)))
info_text (Some e) None s = ap (λ m. 123 ∷ m) (member_first (quoted (codes "expiryDate")) (quoted (time_text e)) (status_text (authorization_status_name s)))
info_text (Some e) (Some p) s =
    ap (λ m. 123 ∷ m) (member_first (quoted (codes "expiryDate")) (quoted (time_text e)) (before_next (codes "parentIdTag") (Some (string p)) ++ status_text (authorization_status_name s))
    ∙ ap (λ m. quoted (codes "expiryDate") ++ 58 ∷ (quoted (time_text e) ++ 44 ∷ m)) (member_first (quoted (codes "parentIdTag")) (quoted p) (status_text (authorization_status_name s))))

pub transfer_text : (s : DataTransferStatus) (content : Option (List ℕ))
    → 123 ∷ (before_next (codes "data") (option_map string content) ++ (codes "\"status\":" ++ (quoted (data_transfer_status_name s) ++ 125 ∷ [])))
    ≡ compact_text (data_transfer_conf s content)
unfolding escape_byte status_text
transfer_text s None = refl
transfer_text s (Some p) = ap (λ m. 123 ∷ m) (member_first (quoted (codes "data")) (quoted p) (status_text (data_transfer_status_name s)))
