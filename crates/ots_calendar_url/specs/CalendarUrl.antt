-- The URL of a calendar. Source: this project's profile of the http and https URIs (RFC 9110, sections 4.2.1 and
-- 4.2.2), with a host and a port and no path.
use Rattle.std.specs.Prelude.{◌≡◌, ℕ, List, ◌++◌, codes}
use Rattle.ots_address.specs.Address.{IsHostAndPort}
use Rattle.ots_calendar_url.specs.declared.url.Scheme.{Scheme}
use Rattle.ots_calendar_url.specs.declared.url.Scheme.TheVariants.{Http, Https}

-- What follows the scheme: a host and maybe a port, as in an address over http. Which port an address without one has
-- is not looked at: that of http is 80, and that of https is 443.
pub record IsAuthority (bytes : List ℕ) : Type 0 where
  pub host : List ℕ
  pub port : ℕ
  pub parts : IsHostAndPort bytes host port

-- A word, and then a host and maybe a port.
pub record BeginsUrl (text word : List ℕ) : Type 0 where
  pub rest : List ℕ
  pub begins : text ≡ word ++ rest
  pub authority : IsAuthority rest

abbrev pub scheme_text : Scheme → List ℕ
scheme_text Http = codes "http://"
scheme_text Https = codes "https://"

-- The text is a URL of this scheme.
abbrev pub IsUrl : List ℕ → Scheme → Type 0
IsUrl text scheme = BeginsUrl text (scheme_text scheme)

-- What contracts see of a URL.
pub record Url : Type 0 where
  pub text : List ℕ
  pub scheme : Scheme

abbrev pub text_of : Url → List ℕ
text_of url = url.text
