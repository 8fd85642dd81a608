-- What contracts see of the code's request.
use Rattle.argon2_words.specs.Request.{Request as Asked}
use Rattle.argon2_words.specs.declared.request.Request.{Request}

-- a request, its salt as a text
abbrev pub argon2_request_view : Request → Asked
argon2_request_view q = record { salt = q.salt.now; settings = q.settings; form = q.form }
