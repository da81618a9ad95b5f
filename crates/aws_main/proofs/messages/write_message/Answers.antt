use Rattle.std.proofs.Common.{sym, ap, ◌∙◌, refl}
use Rattle.std.specs.Prelude.{encode_utf8_all, codes}
use Rattle.std.proofs.lemmas.Str.{encodes-chars}
use Rattle.aws_main.specs.Messages.{message, message_bytes, url_of}
use Rattle.aws_main.proofs.Saying.{ascii_bytes, bad_model_written, lost_written, message_written, reason_written, usage_written, wrote, wrote_front}
use Rattle.aws_main.proofs.messages.write_message.Goals as goal

pub returns-in-NotBuilt-clause-ok : goal.returns-in-NotBuilt-clause-ok
returns-in-NotBuilt-clause-ok g c = wrote c.write_all.result _ (message_bytes c.args.words.now c.args.cause.now) _ _ (sym (ascii_bytes (message (codes "Operation not supported: NotBuilt")) refl) ∙ ap (message_bytes c.args.words.now) (sym c.in-NotBuilt.is)) c.write_all.ensures.ok

pub returns-in-NotBuilt-clause-err : goal.returns-in-NotBuilt-clause-err
returns-in-NotBuilt-clause-err g c = wrote_front c.write_all.result _ (message_bytes c.args.words.now c.args.cause.now) _ _ (sym (ascii_bytes (message (codes "Operation not supported: NotBuilt")) refl) ∙ ap (message_bytes c.args.words.now) (sym c.in-NotBuilt.is)) c.write_all.ensures.err

pub returns-in-OutFault-clause-ok : goal.returns-in-OutFault-clause-ok
returns-in-OutFault-clause-ok g c = wrote c.write_all-in-OutFault.result _ (message_bytes c.args.words.now c.args.cause.now) _ _ (sym (ascii_bytes (message (codes "Error writing output")) refl) ∙ ap (message_bytes c.args.words.now) (sym c.in-OutFault.is)) c.write_all-in-OutFault.ensures.ok

pub returns-in-OutFault-clause-err : goal.returns-in-OutFault-clause-err
returns-in-OutFault-clause-err g c = wrote_front c.write_all-in-OutFault.result _ (message_bytes c.args.words.now c.args.cause.now) _ _ (sym (ascii_bytes (message (codes "Error writing output")) refl) ∙ ap (message_bytes c.args.words.now) (sym c.in-OutFault.is)) c.write_all-in-OutFault.ensures.err

pub returns-in-FileFault-clause-ok : goal.returns-in-FileFault-clause-ok
returns-in-FileFault-clause-ok g c =
    wrote c.write_around-in-FileFault.result _ (message_bytes c.args.words.now c.args.cause.now) _ _
    (message_written (codes "Error reading ") c.in-FileFault.path _ refl c.as_str-in-FileFault.ensures.bytes ∙ ap (message_bytes c.args.words.now) (sym c.in-FileFault.is)) c.write_around-in-FileFault.ensures.ok

pub returns-in-FileFault-clause-err : goal.returns-in-FileFault-clause-err
returns-in-FileFault-clause-err g c =
    wrote_front c.write_around-in-FileFault.result _ (message_bytes c.args.words.now c.args.cause.now) _ _
    (message_written (codes "Error reading ") c.in-FileFault.path _ refl c.as_str-in-FileFault.ensures.bytes ∙ ap (message_bytes c.args.words.now) (sym c.in-FileFault.is)) c.write_around-in-FileFault.ensures.err

pub returns-in-Lost-clause-ok : goal.returns-in-Lost-clause-ok
returns-in-Lost-clause-ok g c =
    wrote c.write_around-in-Lost.result _ (message_bytes c.args.words.now c.args.cause.now) _ _
    (lost_written c.in-Lost.fault (url_of c.args.words.now) _ _ c.lost_start.ensures (sym (encodes-chars c.url_of.result.now c.url_of.utf8) ∙ ap encode_utf8_all c.url_of.ensures)
    ∙ ap (message_bytes c.args.words.now) (sym c.in-Lost.is)) c.write_around-in-Lost.ensures.ok

pub returns-in-Lost-clause-err : goal.returns-in-Lost-clause-err
returns-in-Lost-clause-err g c =
    wrote_front c.write_around-in-Lost.result _ (message_bytes c.args.words.now c.args.cause.now) _ _
    (lost_written c.in-Lost.fault (url_of c.args.words.now) _ _ c.lost_start.ensures (sym (encodes-chars c.url_of.result.now c.url_of.utf8) ∙ ap encode_utf8_all c.url_of.ensures)
    ∙ ap (message_bytes c.args.words.now) (sym c.in-Lost.is)) c.write_around-in-Lost.ensures.err

pub returns-in-Usage-clause-ok : goal.returns-in-Usage-clause-ok
returns-in-Usage-clause-ok g c =
    wrote c.write_around.result _ (message_bytes c.args.words.now c.args.cause.now) _ _
    (usage_written _ _ (sym (encodes-chars c.unknown_name.result.now c.unknown_name.utf8) ∙ ap encode_utf8_all c.unknown_name.ensures)
    ∙ ap (message_bytes c.args.words.now) (sym c.in-Usage.is)) c.write_around.ensures.ok

pub returns-in-Usage-clause-err : goal.returns-in-Usage-clause-err
returns-in-Usage-clause-err g c =
    wrote_front c.write_around.result _ (message_bytes c.args.words.now c.args.cause.now) _ _
    (usage_written _ _ (sym (encodes-chars c.unknown_name.result.now c.unknown_name.utf8) ∙ ap encode_utf8_all c.unknown_name.ensures)
    ∙ ap (message_bytes c.args.words.now) (sym c.in-Usage.is)) c.write_around.ensures.err

pub returns-in-BadModel-clause-ok : goal.returns-in-BadModel-clause-ok
returns-in-BadModel-clause-ok g c =
    wrote c.write_bad_model.result _ (message_bytes c.args.words.now c.args.cause.now) _ _
    (bad_model_written c.in-BadModel.file c.in-BadModel.place _ _ c.as_str.ensures.bytes c.as_str-in-BadModel.ensures.bytes
    ∙ ap (message_bytes c.args.words.now) (sym c.in-BadModel.is)) c.write_bad_model.ensures.ok

pub returns-in-BadModel-clause-err : goal.returns-in-BadModel-clause-err
returns-in-BadModel-clause-err g c =
    wrote_front c.write_bad_model.result _ (message_bytes c.args.words.now c.args.cause.now) _ _
    (bad_model_written c.in-BadModel.file c.in-BadModel.place _ _ c.as_str.ensures.bytes c.as_str-in-BadModel.ensures.bytes
    ∙ ap (message_bytes c.args.words.now) (sym c.in-BadModel.is)) c.write_bad_model.ensures.err

pub returns-in-NotAdmitted-clause-ok : goal.returns-in-NotAdmitted-clause-ok
returns-in-NotAdmitted-clause-ok g c =
    wrote c.write_around-in-NotAdmitted.result _ (message_bytes c.args.words.now c.args.cause.now) _ _
    (message_written (codes "Operation not supported: ") _ _ refl (reason_written c.in-NotAdmitted.refusal _ c.refusal_name.ensures)
    ∙ ap (message_bytes c.args.words.now) (sym c.in-NotAdmitted.is)) c.write_around-in-NotAdmitted.ensures.ok

pub returns-in-NotAdmitted-clause-err : goal.returns-in-NotAdmitted-clause-err
returns-in-NotAdmitted-clause-err g c =
    wrote_front c.write_around-in-NotAdmitted.result _ (message_bytes c.args.words.now c.args.cause.now) _ _
    (message_written (codes "Operation not supported: ") _ _ refl (reason_written c.in-NotAdmitted.refusal _ c.refusal_name.ensures)
    ∙ ap (message_bytes c.args.words.now) (sym c.in-NotAdmitted.is)) c.write_around-in-NotAdmitted.ensures.err
