-- Heads.
use Rattle.std.proofs.Common.{ℕ, List, Result, Ok, Err, Bool, Option, true, false, codes, length, map, take, drop, subst, sym, inl, inr, ◌≡◌, ◌≤◌}
use Rattle.std.specs.Prelude.{IfOk}
use Rattle.http.specs.Uri.{Spells, uri_path}
use Rattle.httparse.specs.Grammar.{RequestHead, ReadsRequest, print_request}
use Rattle.httparse.specs.Spans.{FindsRequest, IsRequestAt, IsRequestOf, span_bytes, name_and_value}
use Rattle.httparse.specs.Outcome.{IfComplete}
use Rattle.httparse.specs.declared.Error.{Error}
use Rattle.httparse.specs.declared.Status.{Status}
use Rattle.httparse.specs.declared.Status.TheVariants.{Complete}
use Rattle.httparse.specs.declared.spans.HeaderSpan.{HeaderSpan}
use Rattle.httparse.specs.declared.spans.RequestSpans.{RequestSpans}
use Rattle.websocket.specs.Headers.{Fields, fields_of}
use Rattle.ws_handshake.specs.declared.head.TheConstants.{MAX_FIELDS}
use Rattle.ws_handshake.specs.Heads.{BytesJudged, Either, Judged, PathJudged, VersionJudged, KeyJudged, HeadJudged, is_version, lacks_host, only_value}
use Rattle.ws_handshake.specs.declared.head.Asked.{Asked}
use Rattle.ws_peers.specs.declared.routes.Route.{Route}

-- the first of two statements
pub holds : (b : Bool) (A B : Type 0) → b ≡ true → A → Either b A B
holds b A B is a = subst (λ b. Either b A B) (sym is) a

-- the second of two statements
pub otherwise : (b : Bool) (A B : Type 0) → b ≡ false → B → Either b A B
otherwise b A B is a = subst (λ b. Either b A B) (sym is) a

-- a request whose target spells a URI is judged by its path
pub by_path : {E : Type 0} (origins : List (List ℕ)) (uri : _) (target method : List ℕ) (minor : ℕ) (fields : Fields) (len : ℕ) (r : Result Asked E) → lacks_host minor fields ≡ false
    → Spells target uri → IfOk r (PathJudged origins (uri_path uri) method minor fields len) → IfOk r (Judged origins target method minor fields len)
by_path origins uri target method minor fields len (Ok asked) has spells is = otherwise _ _ _ has (inr (uri, spells, is))
by_path origins uri target method minor fields len (Err e) has spells is = tt

-- a head is judged by the spans that cover its parts
pub at_head : (origins : List (List ℕ)) (buf : List ℕ) (headers : List HeaderSpan) (found : RequestSpans) (h : RequestHead) (asked : Asked) → IsRequestAt buf headers found h
    → Judged origins (span_bytes buf found.path) (span_bytes buf found.method) found.version (fields_of buf (take found.headers headers)) found.len asked → HeadJudged origins h asked
at_head origins buf headers found h asked at is =
    subst (λ x. Judged origins x h.method h.minor (map name_and_value h.fields) (length (print_request h)) asked) at.path
    (subst (λ x. Judged origins (span_bytes buf found.path) x h.minor (map name_and_value h.fields) (length (print_request h)) asked) at.method
    (subst (λ x. Judged origins (span_bytes buf found.path) (span_bytes buf found.method) x (map name_and_value h.fields) (length (print_request h)) asked) at.version
    (subst (λ x. Judged origins (span_bytes buf found.path) (span_bytes buf found.method) found.version x (length (print_request h)) asked) at.fields
    (subst (λ x. Judged origins (span_bytes buf found.path) (span_bytes buf found.method) found.version (fields_of buf (take found.headers headers)) x asked) at.len is))))

-- an upgrade of the right version is judged by its key
pub by_key : (route : Route) (fields : Fields) (len : ℕ) (asked : Asked) (version key : Option (List ℕ)) → is_version version ≡ true
    → version ≡ only_value (codes "Sec-WebSocket-Version") fields → key ≡ only_value (codes "Sec-WebSocket-Key") fields
    → KeyJudged route fields len key asked → VersionJudged route fields len asked
by_key route fields len asked version key right version_is key_is judged =
    holds _ _ _ (subst (λ v. is_version v ≡ true) version_is right) (subst (λ k. KeyJudged route fields len k asked) key_is judged)

-- a judgement of the request that the spans cover is that of each head that the bytes begin with
pub each_head : {E : Type 0} (origins : List (List ℕ)) (buf : List ℕ) (headers : List HeaderSpan) (found : RequestSpans) (status : Status RequestSpans) (r : Result Asked E)
    → status ≡ Complete found → FindsRequest buf MAX_FIELDS headers (Ok status)
    → IfOk r (Judged origins (span_bytes buf found.path) (span_bytes buf found.method) found.version (fields_of buf (take found.headers headers)) found.len)
    → IfOk r (λ a. (h : RequestHead) (rest : List ℕ) → ReadsRequest buf h rest → length h.fields ≤ MAX_FIELDS → HeadJudged origins h a)
each_head origins buf headers found status (Ok asked) same finds is =
    let at = subst (λ s. FindsRequest buf MAX_FIELDS headers (Ok s)) same finds in
    λ h rest reads fits. at_head origins buf headers found h asked (at h rest reads fits) is
each_head origins buf headers found status (Err e) same finds is = tt

-- there is such a head
pub some_head : {E : Type 0} (origins : List (List ℕ)) (buf : List ℕ) (headers : List HeaderSpan) (found : RequestSpans) (status : Status RequestSpans) (r : Result Asked E)
    → status ≡ Complete found → IfComplete {E = Error} (Ok status) (IsRequestOf buf headers)
    → IfOk r (Judged origins (span_bytes buf found.path) (span_bytes buf found.method) found.version (fields_of buf (take found.headers headers)) found.len)
    → IfOk r (BytesJudged origins buf)
some_head origins buf headers found status (Ok asked) same of is =
    let at = subst (λ s. IfComplete {E = Error} (Ok s) (IsRequestOf buf headers)) same of in
    inl (at.0, drop found.len buf, at.1.reads, at_head origins buf headers found at.0 asked at.1 is)
some_head origins buf headers found status (Err e) same of is = tt
